use Rattle.std.proofs.Common.{◌≡◌}
use Rattle.std.proofs.lemmas.Result.{err_from_is_err_and}
use Rattle.expand_forms.proofs.Settling.{settle_stops, settle_ends, settle_spent, settle_on, settle_breaks}
use Rattle.expand_forms.proofs.expand_uses.expand_uses.Goals as goal

pub returns-in_err-plan : goal.returns-in_err-plan
returns-in_err-plan g c =
    let p = err_from_is_err_and c.from_residual-in_err-plan.result c.from_residual-in_err-plan.ensures.1 in
    rw (p.1, p.2) (settle_stops (g.M.Transformers.records c.args.at.now.means.now) c.loop-place.place c.args.at.now.site.now.level c.loop-place.form c.loop-place.state _ c.loop-place.left c.in_err-plan.field-0.0 (rw c.at_place-site.ensures at c.in_err-plan.ensures) c.loop-place.invariant)

pub returns-in-Plan : goal.returns-in-Plan
returns-in-Plan g c =
    rw (settle_ends (g.M.Transformers.records c.args.at.now.means.now) c.loop-place.place c.args.at.now.site.now.level c.loop-place.form c.loop-place.state _ c.loop-place.left c.in-Plan.plan c.next_step.new.state (rw (c.in-Plan.is, c.at_place-site.ensures) at c.in_ok-plan.ensures) c.loop-place.invariant) c.planned_form.ensures

pub returns-then-left-eq0 : goal.returns-then-left-eq0
returns-then-left-eq0 g c =
    settle_spent (g.M.Transformers.records c.args.at.now.means.now) c.loop-place.place c.args.at.now.site.now.level c.loop-place.form c.loop-place.state _ c.loop-place.left c.in-Use.keyword c.next_step.new.state c.fault_form.result c.if-left-eq0.true (rw (c.in-Use.is, c.at_place-site.ensures) at c.in_ok-plan.ensures) c.fault_form.ensures c.loop-place.invariant

pub returns-in_err-next : goal.returns-in_err-next
returns-in_err-next g c =
    let p = err_from_is_err_and c.from_residual-in_err-next.result c.from_residual-in_err-next.ensures.1 in
    rw (p.1, p.2) (settle_breaks (g.M.Transformers.records c.args.at.now.means.now) c.loop-place.place c.args.at.now.site.now.level c.loop-place.form c.loop-place.state _ c.loop-place.left c.in-Use.keyword c.next_step.new.state c.in_err-next.field-0.0 c.if-left-eq0.false (rw (c.in-Use.is, c.at_place-site.ensures) at c.in_ok-plan.ensures) c.in_err-next.ensures c.loop-place.invariant)

-- with a use of a record form, and of a keyword with a transformer
pub loop-place-preserved : goal.loop-place-preserved
loop-place-preserved g c =
    rw c.in_ok-place-2.ensures (settle_on (g.M.Transformers.records c.args.at.now.means.now) c.loop-place.place c.args.at.now.site.now.level c.loop-place.form c.loop-place.state _ c.loop-place.left c.in-Use.keyword c.next_step.new.state c.in_ok-next.next c.next_form.new.state c.if-left-eq0.false (rw (c.in-Use.is, c.at_place-site.ensures) at c.in_ok-plan.ensures) c.in_ok-next.ensures c.loop-place.invariant)

pub loop-place-preserved-in_ok-place-2 : goal.loop-place-preserved-in_ok-place-2
loop-place-preserved-in_ok-place-2 g c =
    rw c.in_ok-place-2.ensures (settle_on (g.M.Transformers.records c.args.at.now.means.now) c.loop-place.place c.args.at.now.site.now.level c.loop-place.form c.loop-place.state _ c.loop-place.left c.in-Use.keyword c.next_step.new.state c.in_ok-next.next c.next_form.new.state c.if-left-eq0.false (rw (c.in-Use.is, c.at_place-site.ensures) at c.in_ok-plan.ensures) c.in_ok-next.ensures c.loop-place.invariant)
