use Rattle.std.proofs.Common.{sym, ap, ◌∙◌}
use Rattle.std.specs.Map.{set_value}
use Rattle.std.proofs.lemmas.Map.Steps.{set_value_same}
use Rattle.std.proofs.lemmas.Result.{on_err_weaker}
use Rattle.stx_frames.specs.Rows.{row_of}
use Rattle.stx_frames.specs.Scope.{same_frame}
use Rattle.stx_frames.proofs.ScopeLemmas.{bound_as_put}
use Rattle.stx_frames.proofs.frames.FrameMap.bind_there.Goals as goal

pub returns-clause-row : goal.returns-clause-row
returns-clause-row c =
    bound_as_put c.args.frame.now (row_of (c.args.key, c.args.label)) c.self.inside.frames.entries c.args.self.now _ c.in-Some.table.now c.put.new.self
    c.in-Some.ensures.value c.self.view_is (c.get_mut.follows.holds c.put.new.self).0 c.put.result c.put.ensures.row

pub returns-clause-err : goal.returns-clause-err
returns-clause-err c =
    let f = c.args.frame.now in
    let es = c.self.inside.frames.entries in
    let rs = c.in-Some.table.now in
    let h = (c.get_mut.follows.holds c.put.new.self).0 in
    on_err_weaker c.put.result (λ e. h ∙ ap (set_value (same_frame f) es) e ∙ set_value_same (same_frame f) es rs (sym c.in-Some.ensures.value) ∙ c.self.view_is) c.put.ensures.err
