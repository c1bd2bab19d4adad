use Rattle.std.proofs.Common.{false, refl}
use Rattle.std.proofs.lemmas.Result.{err_from_is_err_and}
use Rattle.std.proofs.lemmas.List.{map-id}
use Rattle.base_data.proofs.Loops.{each_on, each_stops, each_done}
use Rattle.expand_standing.specs.Binders.{bind_variable}
use Rattle.expand_standing.proofs.expansion.Expansion.bind_all.Goals as goal

pub loop-id-init : goal.loop-id-init
loop-id-init g c = rw (c.new-labels.ensures, map-id c.args.ids.now) refl

pub returns-in_err-label : goal.returns-in_err-label
returns-in_err-label g c =
    let p = err_from_is_err_and c.from_residual.result c.from_residual.ensures.1 in
    rw (p.1, p.2) (each_stops (λ t. t) (bind_variable c.args.context.now.frame.now c.args.context.now.place.now c.args.context.now.level false) c.loop-id.labels c.args.ids.now c.loop-id.id-index c.id-item.result c.loop-id.self _ c.in_err-label.field-0.0 c.loop-id-test.true c.id-item.is c.in_err-label.ensures c.loop-id.invariant)

pub loop-id-preserved : goal.loop-id-preserved
loop-id-preserved g c =
    rw c.in_ok-push.ensures.ok (each_on (λ t. t) (bind_variable c.args.context.now.frame.now c.args.context.now.place.now c.args.context.now.level false) c.loop-id.labels c.args.ids.now c.loop-id.id-index c.id-item.result c.loop-id.self _ c.in_ok-label.label c.bind_variable.new.self c.loop-id-test.true c.id-item.is c.in_ok-label.ensures c.loop-id.invariant)

pub returns : goal.returns
returns g c = each_done (λ t. t) (bind_variable c.args.context.now.frame.now c.args.context.now.place.now c.args.context.now.level false) c.loop-id.labels c.args.ids.now c.loop-id.id-index c.loop-id.self _ c.loop-id-test.false c.loop-id.invariant
