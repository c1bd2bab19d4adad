use Rattle.std.proofs.Common.{◌≡◌, ◌∙◌, ◌++◌, ap, append_assoc}
use Rattle.std.proofs.lemmas.Result.{err_from_is_err_and}
use Rattle.load_import.specs.Names.{join_one}
use Rattle.load_import.proofs.TurnLemmas.{turns_on, turns_stop, turns_end}
use Rattle.load_import.proofs.names.join_each.Goals as goal

pub returns-in_err-join_one-clause-names : goal.returns-in_err-join_one-clause-names
returns-in_err-join_one-clause-names c =
    let p = err_from_is_err_and c.from_residual.result c.from_residual.ensures.1 in
    rw (p.1, p.2) (turns_stop (join_one c.args.span.now) c.args.more.now c.loop-row.row-index c.row-item.result c.loop-row.all _ c.in_err-join_one.field-0.0 c.loop-row-test.true c.row-item.is c.in_err-join_one.ensures.names c.loop-row.invariant.so_far)

pub returns-in_err-join_one-clause-front : goal.returns-in_err-join_one-clause-front
returns-in_err-join_one-clause-front c =
    let a = c.loop-row.invariant.front in
    let b = c.join_one.ensures.front in
    (a.0 ++ b.0, b.1 ∙ ap (λ x. x ++ b.0) a.1 ∙ append_assoc c.args.all.now a.0 b.0)

pub loop-row-preserved : goal.loop-row-preserved
loop-row-preserved c =
    let a = c.loop-row.invariant.front in
    let b = c.join_one.ensures.front in
    record {
      so_far = turns_on (join_one c.args.span.now) c.args.more.now c.loop-row.row-index c.row-item.result c.loop-row.all _ _ c.loop-row-test.true c.row-item.is c.in_ok-join_one.ensures.names c.loop-row.invariant.so_far;
      front = (a.0 ++ b.0, b.1 ∙ ap (λ x. x ++ b.0) a.1 ∙ append_assoc c.args.all.now a.0 b.0);
    }

pub returns-clause-names : goal.returns-clause-names
returns-clause-names c = turns_end (join_one c.args.span.now) c.args.more.now c.loop-row.row-index c.loop-row.all _ c.loop-row-test.false c.loop-row.invariant.so_far
