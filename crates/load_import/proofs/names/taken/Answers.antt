use Rattle.std.proofs.Common.{◌≡◌, ◌∙◌, sym, ap, subst}
use Rattle.std.proofs.lemmas.Result.{err_from_is_err_and}
use Rattle.base_data.specs.Gives.{Stops}
use Rattle.load_import.specs.Names.{step_names}
use Rattle.load_import.proofs.TurnLemmas.{turns_on, turns_stop, turns_end}
use Rattle.load_import.proofs.names.taken.Goals as goal

pub returns-in_err-names : goal.returns-in_err-names
returns-in_err-names c =
    let p = err_from_is_err_and c.from_residual.result c.from_residual.ensures.1 in
    let stops = subst (λ n. Stops c.in_err-names.field-0.0 (step_names c.args.span.now n c.step-item.result)) c.as_slice.ensures c.in_err-names.ensures in
    rw (p.1, p.2) (turns_stop (step_names c.args.span.now) c.args.steps.now c.loop-step.step-index c.step-item.result c.loop-step.names _ c.in_err-names.field-0.0 c.loop-step-test.true c.step-item.is stops c.loop-step.invariant)

pub loop-step-preserved : goal.loop-step-preserved
loop-step-preserved c =
    let given = ap (λ n. step_names c.args.span.now n c.step-item.result) (sym c.as_slice.ensures) ∙ c.in_ok-names.ensures in
    turns_on (step_names c.args.span.now) c.args.steps.now c.loop-step.step-index c.step-item.result c.loop-step.names _ c.in_ok-names.names c.loop-step-test.true c.step-item.is given c.loop-step.invariant

pub returns : goal.returns
returns c = turns_end (step_names c.args.span.now) c.args.steps.now c.loop-step.step-index c.loop-step.names _ c.loop-step-test.false c.loop-step.invariant
