use Rattle.std.proofs.Common.{sym, ◌∙◌}
use Rattle.std.proofs.lemmas.List.{nil_from_length}
use Rattle.std.proofs.lemmas.Result.{err_from_is_err_and}
use Rattle.eval_stage.specs.Libraries.{earlier_in}
use Rattle.expand_forms.specs.Body.{splice}
use Rattle.expand_forms.specs.Expression.{inside}
use Rattle.expand_forms.proofs.Taking.{gather_none, gather_taken, gather_stopped}
use Rattle.expand_forms.proofs.top.splice_each.Goals as goal

pub returns-in_err-item : goal.returns-in_err-item
returns-in_err-item g c =
    let p = err_from_is_err_and c.from_residual.result c.from_residual.ensures.1 in
    rw (p.1, p.2) (gather_stopped ((inside (earlier_in c.args.at.now.means.now.earlier) c.args.at.now.room).item c.args.at.now.body.now c.args.at.now.depth) c.loop-form.taken c.loop-form.left.rest.items c.next.new.self.rest.items c.in-Some.form
    c.in-Some.ensures.cases.0 c.loop-form.state _ c.loop-form.invariant c.in_err-item.field-0.0 c.in_err-item.ensures)

pub loop-form-preserved : goal.loop-form-preserved
loop-form-preserved g c =
    gather_taken ((inside (earlier_in c.args.at.now.means.now.earlier) c.args.at.now.room).item c.args.at.now.body.now c.args.at.now.depth) c.loop-form.taken c.loop-form.left.rest.items c.next.new.self.rest.items c.in-Some.form
    c.in-Some.ensures.cases.0 c.loop-form.state _ c.loop-form.invariant c.item.new.taken c.item.new.state c.in_ok-item.ensures

pub returns : goal.returns
returns g c =
    gather_none ((inside (earlier_in c.args.at.now.means.now.earlier) c.args.at.now.room).item c.args.at.now.body.now c.args.at.now.depth) c.loop-form.taken c.loop-form.left.rest.items c.loop-form.state
    (splice (inside (earlier_in c.args.at.now.means.now.earlier) c.args.at.now.room) c.args.at.now.body.now c.args.at.now.depth c.args.taken.now c.args.forms c.args.state.now)
    (nil_from_length c.loop-form.left.rest.items (sym c.loop-form.left.rest.ok.0 ∙ c.in_default.ensures.cases.0)) c.loop-form.invariant
