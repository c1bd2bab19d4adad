use Rattle.std.proofs.Common.{sym, ap, ◌∙◌, List, length}
use Rattle.stx_frames.specs.Rows.{Row}
use Rattle.stx_frames.specs.Scope.{rows_at}
use Rattle.stx_frames.specs.Needed.{parts_given}
use Rattle.stx_frames.proofs.GivenLemmas.{rows_at-part}
use Rattle.stx_frames.proofs.joined.JoinedFrames.size_at.Goals as goal

pub returns : goal.returns
returns c =
    let f = c.args.frame.now in
    c.size_at.ensures
    ∙ ap (λ (rs : List Row). length rs)
    (ap (rows_at f) c.part_of_frame.ensures ∙ sym (rows_at-part f (parts_given c.self.inside.given) c.self.inside.own c.self.invariant) ∙ ap (rows_at f) c.self.view_is)
