use Rattle.std.proofs.Common.{◌≡◌}
use Rattle.std.proofs.lemmas.Result.{err_from_is_err_and}
use Rattle.expand_forms.proofs.Settling.{item_stops, item_ends, item_spent, item_on, item_breaks}
use Rattle.expand_forms.proofs.expand_uses.expand_item_uses.Goals as goal

pub returns-in_err-item : goal.returns-in_err-item
returns-in_err-item g c =
    let p = err_from_is_err_and c.from_residual-in_err-item.result c.from_residual-in_err-item.ensures.1 in
    rw (p.1, p.2) (item_stops (g.M.Transformers.records c.args.at.now.means.now) c.loop-body.body c.args.at.now.depth c.loop-body.taken c.loop-body.form c.loop-body.state _ c.loop-body.left c.in_err-item.field-0.0 c.in_err-item.ensures c.loop-body.invariant)

pub returns-in-Item : goal.returns-in-Item
returns-in-Item g c =
    item_ends (g.M.Transformers.records c.args.at.now.means.now) c.loop-body.body c.args.at.now.depth c.loop-body.taken c.loop-body.form c.loop-body.state _ c.loop-body.left c.item_step.new.taken c.in-Item.item c.item_step.new.state (rw c.in-Item.is at c.in_ok-item.ensures) c.loop-body.invariant

pub returns-then-left-eq0 : goal.returns-then-left-eq0
returns-then-left-eq0 g c =
    item_spent (g.M.Transformers.records c.args.at.now.means.now) c.loop-body.body c.args.at.now.depth c.loop-body.taken c.loop-body.form c.loop-body.state _ c.loop-body.left c.item_step.new.taken c.in-Use.keyword c.item_step.new.state c.fault_form.result c.if-left-eq0.true (rw c.in-Use.is at c.in_ok-item.ensures) c.fault_form.ensures c.loop-body.invariant

pub returns-in_err-next : goal.returns-in_err-next
returns-in_err-next g c =
    let p = err_from_is_err_and c.from_residual-in_err-next.result c.from_residual-in_err-next.ensures.1 in
    rw (p.1, p.2) (item_breaks (g.M.Transformers.records c.args.at.now.means.now) c.loop-body.body c.args.at.now.depth c.loop-body.taken c.loop-body.form c.loop-body.state _ c.loop-body.left c.item_step.new.taken c.in-Use.keyword c.item_step.new.state c.in_err-next.field-0.0 c.if-left-eq0.false (rw c.in-Use.is at c.in_ok-item.ensures) (rw c.in_ok-frame.ensures at c.in_err-next.ensures) c.loop-body.invariant)

-- with a use of a record form, and of a keyword with a transformer
pub loop-body-preserved : goal.loop-body-preserved
loop-body-preserved g c =
    rw c.in_ok-body-2.ensures (item_on (g.M.Transformers.records c.args.at.now.means.now) c.loop-body.body c.args.at.now.depth c.loop-body.taken c.loop-body.form c.loop-body.state _ c.loop-body.left c.item_step.new.taken c.in-Use.keyword c.item_step.new.state c.in_ok-next.next c.next_form.new.state c.if-left-eq0.false (rw c.in-Use.is at c.in_ok-item.ensures) (rw c.in_ok-frame.ensures at c.in_ok-next.ensures) c.loop-body.invariant)

pub loop-body-preserved-in_ok-body-2 : goal.loop-body-preserved-in_ok-body-2
loop-body-preserved-in_ok-body-2 g c =
    rw c.in_ok-body-2.ensures (item_on (g.M.Transformers.records c.args.at.now.means.now) c.loop-body.body c.args.at.now.depth c.loop-body.taken c.loop-body.form c.loop-body.state _ c.loop-body.left c.item_step.new.taken c.in-Use.keyword c.item_step.new.state c.in_ok-next.next c.next_form.new.state c.if-left-eq0.false (rw c.in-Use.is at c.in_ok-item.ensures) (rw c.in_ok-frame.ensures at c.in_ok-next.ensures) c.loop-body.invariant)
