use Rattle.std.proofs.Common.{◌≡◌, refl}
use Rattle.std.proofs.lemmas.Result.{err_from_is_err_and}
use Rattle.std.proofs.lemmas.List.{map-id}
use Rattle.base_data.proofs.Loops.{each_on, each_stops, each_done}
use Rattle.expand_forms.specs.Top.{export}
use Rattle.expand_forms.proofs.top.all_exports.Goals as goal

pub loop-external-init : goal.loop-external-init
loop-external-init g c = rw (c.new-done.ensures, map-id c.args.list.now) refl

pub returns-in_err-one : goal.returns-in_err-one
returns-in_err-one g c =
    let p = err_from_is_err_and c.from_residual.result c.from_residual.ensures.1 in
    rw (p.1, p.2) (each_stops (λ e. e) (export c.args.at.now) c.loop-external.done c.args.list.now c.loop-external.external-index c.loop-external-item.result c.loop-external.state _ c.in_err-one.field-0.0 c.loop-external-test.true c.loop-external-item.is c.in_err-one.ensures c.loop-external.invariant)

pub loop-external-preserved : goal.loop-external-preserved
loop-external-preserved g c =
    rw c.in_ok-push.ensures.ok (each_on (λ e. e) (export c.args.at.now) c.loop-external.done c.args.list.now c.loop-external.external-index c.loop-external-item.result c.loop-external.state _ c.in_ok-one.one c.export.new.state c.loop-external-test.true c.loop-external-item.is c.in_ok-one.ensures c.loop-external.invariant)

pub returns : goal.returns
returns g c = each_done (λ e. e) (export c.args.at.now) c.loop-external.done c.args.list.now c.loop-external.external-index c.loop-external.state _ c.loop-external-test.false c.loop-external.invariant
