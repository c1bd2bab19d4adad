use Rattle.std.proofs.Common.{◌<◌, arith}
use Rattle.std.proofs.lemmas.Result.{err_from_is_err_and}
use Rattle.read_reader.specs.FirstFault.{bad_start}
use Rattle.read_reader.proofs.Taken.{taken_none, taken_on, bad_token, refused_token, ends_right, on_fault}
use Rattle.read_reader.proofs.Turns.{begins, begins_not, ends, fails, sticks, turn, passes_on, answers}
use Rattle.read_reader.proofs.read.read_sharing.Goals as goal

pub returns-in_err-at : goal.returns-in_err-at
returns-in_err-at c =
    let p = err_from_is_err_and c.from_residual.result c.from_residual.ensures.1 in
    rw (p.1, p.2) (record {
      gives = passes_on c.in_err-at.field-0.0 _ _ (begins_not c.args.context.now.file.now c.args.bytes.now c.args.context.now.nesting) c.in_err-at.ensures.gives;
      spelled = tt;
      refused = on_fault c.in_err-at.field-0.0 _ _ (λ f e. bad_start f e) c.in_err-at.ensures.gives;
    })

pub loop-state-init : goal.loop-state-init
loop-state-init c = record {
  inside = c.in_ok-at.ensures.within;
  begins = c.in_ok-at.ensures.gives;
  taken = rw c.new-state.ensures (taken_none c.args.context.now.file.now c.args.context.now.nesting _ c.in_ok-at.at);
  comes = rw c.new-state.ensures (begins c.args.context.now.file.now c.args.bytes.now c.args.context.now.nesting c.in_ok-at.at c.in_ok-at.ensures.gives);
}

pub returns-in_err-lexeme : goal.returns-in_err-lexeme
returns-in_err-lexeme c =
    let p = err_from_is_err_and c.from_residual-in_err-lexeme.result c.from_residual-in_err-lexeme.ensures.1 in
    let so = c.loop-state.invariant in
    rw (p.1, p.2) (record {
      gives = passes_on c.in_err-lexeme.field-0.0 _ _ (λ f e. fails c.args.context.now.file.now c.args.context.now.nesting _ _ c.loop-state.state c.loop-state.at _ so.inside f e so.comes) c.in_err-lexeme.ensures.gives;
      spelled = tt;
      refused = on_fault c.in_err-lexeme.field-0.0 _ _
          (λ f e. bad_token c.args.context.now.file.now c.args.bytes.now c.args.context.now.nesting c.in_ok-at.at c.loop-state.at c.loop-state.state so.begins so.taken f e) c.in_err-lexeme.ensures.gives;
    })

pub returns-in_default : goal.returns-in_default
returns-in_default c =
    let found = rw c.in_default.is at c.in_ok-lexeme.ensures in
    let so = c.loop-state.invariant in
    let right = ends_right c.args.context.now.file.now c.args.bytes.now c.args.context.now.nesting c.in_ok-at.at c.loop-state.at c.loop-state.state so.begins so.taken (λ v. v.items) c.finish.result found.gives c.finish.ensures in
    record {
      gives = answers (λ v. v.items) c.finish.result _ _
          (ends c.args.context.now.file.now c.args.context.now.nesting _ _ c.loop-state.state c.loop-state.at _ so.inside found.gives so.comes) c.finish.ensures;
      spelled = right.0;
      refused = right.1;
    }

pub returns-in_err-state : goal.returns-in_err-state
returns-in_err-state c =
    let p = err_from_is_err_and c.from_residual-in_err-state.result c.from_residual-in_err-state.ensures.1 in
    let found = rw c.in-Some.is at c.in_ok-lexeme.ensures in
    let so = c.loop-state.invariant in
    rw (p.1, p.2) (record {
      gives = passes_on c.in_err-state.field-0.0 _ _
          (λ f e. sticks c.args.context.now.file.now c.args.context.now.nesting _ _ c.loop-state.state c.loop-state.at _ so.inside c.in-Some.lexeme f found.gives e so.comes) c.in_err-state.ensures;
      spelled = tt;
      refused = on_fault c.in_err-state.field-0.0 _ _
          (λ f e. refused_token c.args.context.now.file.now c.args.bytes.now c.args.context.now.nesting c.in_ok-at.at c.loop-state.at c.loop-state.state so.begins so.taken c.in-Some.lexeme f found.gives e) c.in_err-state.ensures;
    })

pub loop-state-preserved : goal.loop-state-preserved
loop-state-preserved c =
    let found = rw c.in-Some.is at c.in_ok-lexeme.ensures in
    let so = c.loop-state.invariant in
    let goes_on : c.loop-state.at < c.in-Some.lexeme.to = omega (arith, found.forward) in
    record {
      inside = found.forward.2;
      begins = so.begins;
      taken = taken_on c.args.context.now.file.now c.args.context.now.nesting c.in_ok-state.state c.in-Some.lexeme so.taken found.gives c.in_ok-state.ensures;
      comes = turn c.args.context.now.file.now c.args.context.now.nesting _ _ c.loop-state.state c.loop-state.at _ so.inside c.in-Some.lexeme c.in_ok-state.state found.gives c.in_ok-state.ensures goes_on so.comes;
    }
