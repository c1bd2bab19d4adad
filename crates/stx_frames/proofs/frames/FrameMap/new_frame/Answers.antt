use Rattle.std.proofs.Common.{ap, ◌∙◌, ◌∷◌, ◌++◌, [], List}
use Rattle.indexmap.proofs.CallerLemmas.{insert_entry-new}
use Rattle.stx_frames.specs.Rows.{Row}
use Rattle.stx_frames.specs.Scope.{Scope, same_frame, has_frame}
use Rattle.stx_frames.proofs.ScopeLemmas.{lookup-absent}
use Rattle.stx_frames.proofs.frames.FrameMap.new_frame.Goals as goal

pub returns-in-Ok-clause-ok : goal.returns-in-Ok-clause-ok
returns-in-Ok-clause-ok c =
    let m = c.self.inside.frames in
    let f = c.args.frame in
    let none = lookup-absent f m.entries (ap (has_frame f) c.self.view_is ∙ c.requires) in
    c.in-Ok.ensures.entries ∙ insert_entry-new same_frame m f c.new-table.result none
    ∙ ap (λ (rs : List Row). m.entries ++ (f, rs) ∷ []) c.new-table.ensures
    ∙ ap (λ (es : Scope). es ++ (f, []) ∷ []) c.self.view_is
