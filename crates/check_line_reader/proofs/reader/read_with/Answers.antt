use Rattle.std.proofs.Common.{◌<◌, arith}
use Rattle.std.proofs.lemmas.Result.{err_from_is_err_and}
use Rattle.check_line_reader.specs.Progress.{whole}
use Rattle.read_reader.proofs.Turns.{begins, begins_not, ends, fails, sticks, turn, passes_on, answers}
use Rattle.check_line_reader.proofs.reader.read_with.Goals as goal

pub returns-in_err-at : goal.returns-in_err-at
returns-in_err-at c =
    let p = err_from_is_err_and c.from_residual.result c.from_residual.ensures.1 in
    rw (p.1, p.2) (passes_on c.in_err-at.field-0.0 _ _ (begins_not c.args.context.now.file.now c.args.bytes.now c.args.context.now.nesting) c.in_err-at.ensures.gives)

pub loop-progress-init : goal.loop-progress-init
loop-progress-init c = record {
  inside = c.in_ok-at.ensures.within;
  comes = rw c.new-progress.ensures (begins c.args.context.now.file.now c.args.bytes.now c.args.context.now.nesting c.in_ok-at.at c.in_ok-at.ensures.gives);
}

pub returns-in_err-lexeme : goal.returns-in_err-lexeme
returns-in_err-lexeme c =
    let p = err_from_is_err_and c.from_residual-in_err-lexeme.result c.from_residual-in_err-lexeme.ensures.1 in
    let so = c.loop-progress.invariant in
    rw (p.1, p.2)
    (passes_on c.in_err-lexeme.field-0.0 _ _ (λ f e. fails c.args.context.now.file.now c.args.context.now.nesting _ _ (whole c.loop-progress.progress) c.loop-progress.at _ so.inside f e so.comes) c.in_err-lexeme.ensures.gives)

pub returns-in_default : goal.returns-in_default
returns-in_default c =
    let found = rw c.in_default.is at c.in_ok-lexeme.ensures in
    let so = c.loop-progress.invariant in
    answers (λ v. v.items) c.finished.result _ _ (ends c.args.context.now.file.now c.args.context.now.nesting _ _ (whole c.loop-progress.progress) c.loop-progress.at _ so.inside found.gives so.comes) c.finished.ensures

pub returns-in_err-take : goal.returns-in_err-take
returns-in_err-take c =
    let p = err_from_is_err_and c.from_residual-in_err-take.result c.from_residual-in_err-take.ensures.1 in
    let found = rw c.in-Some.is at c.in_ok-lexeme.ensures in
    let so = c.loop-progress.invariant in
    rw (p.1, p.2)
    (passes_on c.in_err-take.field-0.0 _ _
    (λ f e. sticks c.args.context.now.file.now c.args.context.now.nesting _ _ (whole c.loop-progress.progress) c.loop-progress.at _ so.inside c.in-Some.lexeme f found.gives e so.comes) c.in_err-take.ensures)

pub loop-progress-preserved : goal.loop-progress-preserved
loop-progress-preserved c =
    let found = rw c.in-Some.is at c.in_ok-lexeme.ensures in
    let so = c.loop-progress.invariant in
    let goes_on : c.loop-progress.at < c.in-Some.lexeme.to = omega (arith, found.forward) in
    record {
      inside = found.forward.2;
      comes = turn c.args.context.now.file.now c.args.context.now.nesting _ _ (whole c.loop-progress.progress) c.loop-progress.at _ so.inside c.in-Some.lexeme (whole c.take.new.self) found.gives c.in_ok-take.ensures goes_on so.comes;
    }
