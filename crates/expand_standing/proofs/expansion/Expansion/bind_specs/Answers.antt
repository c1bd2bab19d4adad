use Rattle.std.proofs.Common.{refl}
use Rattle.std.proofs.lemmas.Result.{err_from_is_err_and}
use Rattle.std.proofs.lemmas.List.{map-id}
use Rattle.base_data.proofs.Loops.{each_on, each_stops, each_done}
use Rattle.expand_standing.specs.Binders.{bind_spec}
use Rattle.expand_standing.proofs.expansion.Expansion.bind_specs.Goals as goal

pub loop-spec-init : goal.loop-spec-init
loop-spec-init g c = rw (c.new-done.ensures, map-id c.args.specs.now) refl

pub returns-in_err-one : goal.returns-in_err-one
returns-in_err-one g c =
    let p = err_from_is_err_and c.from_residual.result c.from_residual.ensures.1 in
    rw (p.1, p.2) (each_stops (λ t. t) (bind_spec c.args.context.now.frame.now c.args.context.now.place.now c.args.context.now.level) c.loop-spec.done c.args.specs.now c.loop-spec.spec-index c.spec-item.result c.loop-spec.self _ c.in_err-one.field-0.0 c.loop-spec-test.true c.spec-item.is c.in_err-one.ensures c.loop-spec.invariant)

pub loop-spec-preserved : goal.loop-spec-preserved
loop-spec-preserved g c =
    rw c.in_ok-push.ensures.ok (each_on (λ t. t) (bind_spec c.args.context.now.frame.now c.args.context.now.place.now c.args.context.now.level) c.loop-spec.done c.args.specs.now c.loop-spec.spec-index c.spec-item.result c.loop-spec.self _ c.in_ok-one.one c.bind_spec.new.self c.loop-spec-test.true c.spec-item.is c.in_ok-one.ensures c.loop-spec.invariant)

pub returns : goal.returns
returns g c = each_done (λ t. t) (bind_spec c.args.context.now.frame.now c.args.context.now.place.now c.args.context.now.level) c.loop-spec.done c.args.specs.now c.loop-spec.spec-index c.loop-spec.self _ c.loop-spec-test.false c.loop-spec.invariant
