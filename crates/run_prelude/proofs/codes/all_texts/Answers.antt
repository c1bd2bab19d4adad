use Rattle.std.proofs.Common.{[], ◌∷◌, map, get_or, refl}
use Rattle.std.proofs.lemmas.Result.{err_from_is_err_and}
use Rattle.std.proofs.lemmas.List.{map-append, get_or_default}
use Rattle.base_data.proofs.Loops.{each_on, each_stops, each_done}
use Rattle.base_data.specs.declared.op.Op.{Op}
use Rattle.run_prelude.specs.Prelude.{text_code}
use Rattle.run_prelude.proofs.codes.all_texts.Goals as goal

pub loop-op-init : goal.loop-op-init
loop-op-init g c = (rw c.new-codes.ensures refl, c.requires.open)

pub returns-in_err-code : goal.returns-in_err-code
returns-in_err-code g c =
    let p = err_from_is_err_and c.from_residual.result c.from_residual.ensures.1 in
    let d : Op = record { 0 = 0 } in
    let op : Op = get_or c.args.ops.now c.loop-op.op-index d in
    rw (p.1, p.2) (each_stops (λ o. o.0) text_code (map (λ c. c.value) c.loop-op.codes) c.args.ops.now c.loop-op.op-index op c.loop-op.expander.state _ c.in_err-code.field-0.0 c.loop-op-test.true (get_or_default c.args.ops.now c.loop-op.op-index d op c.loop-op-test.true) c.in_err-code.ensures.given c.loop-op.invariant.0)

pub loop-op-preserved : goal.loop-op-preserved
loop-op-preserved g c =
    let d : Op = record { 0 = 0 } in
    let op : Op = get_or c.args.ops.now c.loop-op.op-index d in
    (rw (c.in_ok-push.ensures.ok, map-append (λ c. c.value) c.loop-op.codes (c.in_ok-code.code ∷ [])) (each_on (λ o. o.0) text_code (map (λ c. c.value) c.loop-op.codes) c.args.ops.now c.loop-op.op-index op c.loop-op.expander.state _ c.in_ok-code.code.value c.text_code.new.expander.state c.loop-op-test.true (get_or_default c.args.ops.now c.loop-op.op-index d op c.loop-op-test.true) c.in_ok-code.ensures.given c.loop-op.invariant.0), c.in_ok-code.ensures.open)

pub returns : goal.returns
returns g c = each_done (λ o. o.0) text_code (map (λ c. c.value) c.loop-op.codes) c.args.ops.now c.loop-op.op-index c.loop-op.expander.state _ c.loop-op-test.false c.loop-op.invariant.0

pub text_code-requires-clause-open : goal.text_code-requires-clause-open
text_code-requires-clause-open g c = c.loop-op.invariant.1
