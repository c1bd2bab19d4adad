use Rattle.std.proofs.Common.{sym, ap, ◌∙◌}
use Rattle.stx_frames.specs.Scope.{has_frame}
use Rattle.stx_frames.specs.Needed.{parts_given}
use Rattle.stx_frames.proofs.GivenLemmas.{has_frame-part}
use Rattle.stx_frames.proofs.joined.JoinedFrames.has_frame.Goals as goal

pub returns : goal.returns
returns c =
    let f = c.args.frame.now in
    c.has_frame.ensures ∙ ap (has_frame f) c.part_of_frame.ensures ∙ sym (has_frame-part f (parts_given c.self.inside.given) c.self.inside.own c.self.invariant) ∙ ap (has_frame f) c.self.view_is
