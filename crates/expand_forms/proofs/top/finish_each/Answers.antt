use Rattle.std.proofs.Common.{sym, ◌∙◌}
use Rattle.std.proofs.lemmas.List.{nil_from_length}
use Rattle.std.proofs.lemmas.Result.{err_from_is_err_and}
use Rattle.eval_stage.specs.Libraries.{earlier_in}
use Rattle.expand_forms.specs.Body.{finish_one, finish_all}
use Rattle.expand_forms.specs.Expression.{inside}
use Rattle.expand_forms.proofs.Taking.{each_none, each_taken, each_stopped}
use Rattle.expand_forms.proofs.top.finish_each.Goals as goal

pub returns-in_err-line : goal.returns-in_err-line
returns-in_err-line g c =
    let p = err_from_is_err_and c.from_residual.result c.from_residual.ensures.1 in
    rw (p.1, p.2) (each_stopped (finish_one (inside (earlier_in c.args.at.now.means.now.earlier) c.args.at.now.room) c.args.at.now.site.now.level) c.loop-one.lines.items c.loop-one.left.rest.items c.next.new.self.rest.items c.in-Some.one
    c.in-Some.ensures.cases.0 c.loop-one.state _ c.loop-one.invariant c.in_err-line.field-0.0 c.in_err-line.ensures)

pub loop-one-preserved : goal.loop-one-preserved
loop-one-preserved g c =
    rw c.in_ok-push.ensures.items (each_taken (finish_one (inside (earlier_in c.args.at.now.means.now.earlier) c.args.at.now.room) c.args.at.now.site.now.level) c.loop-one.lines.items c.loop-one.left.rest.items c.next.new.self.rest.items c.in-Some.one
    c.in-Some.ensures.cases.0 c.loop-one.state _ c.loop-one.invariant c.in_ok-line.line c.finish_next.new.state c.in_ok-line.ensures)

pub returns : goal.returns
returns g c =
    each_none (finish_one (inside (earlier_in c.args.at.now.means.now.earlier) c.args.at.now.room) c.args.at.now.site.now.level) c.loop-one.lines.items c.loop-one.left.rest.items c.loop-one.state
    (finish_all (inside (earlier_in c.args.at.now.means.now.earlier) c.args.at.now.room) c.args.at.now.site.now.level c.args.waiting c.args.state.now)
    (nil_from_length c.loop-one.left.rest.items (sym c.loop-one.left.rest.ok.0 ∙ c.in_default.ensures.cases.0)) c.loop-one.invariant
