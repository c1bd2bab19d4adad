use Rattle.std.proofs.Common.{sym, ap, ◌∙◌}
use Rattle.stx_frames.specs.Scope.{has_frame}
use Rattle.stx_frames.proofs.ScopeLemmas.{has_frame-lookup}
use Rattle.stx_frames.proofs.frames.FrameMap.has_frame.Goals as goal

pub returns : goal.returns
returns c =
    let f = c.args.frame.now in
    c.contains_key.ensures ∙ sym (has_frame-lookup f c.self.inside.frames.entries) ∙ ap (has_frame f) c.self.view_is
