use Rattle.std.proofs.Common.{◌≡◌, sym, ap, subst, ◌∙◌, List, IfOk}
use Rattle.stx_tree.specs.declared.frame_row.FrameRow.{FrameRow}
use Rattle.stx_frames.specs.Listed.{rows_in}
use Rattle.stx_frames.specs.Needed.{parts_given}
use Rattle.stx_frames.proofs.GivenLemmas.{rows_in-part}
use Rattle.stx_frames.proofs.joined.JoinedFrames.rows.Goals as goal

pub returns : goal.returns
returns c =
    let l = c.args.library.now.value in
    subst (λ (rs : List FrameRow). IfOk c.rows.result (λ v. v.items ≡ rs))
    (ap (λ x. rows_in x c.part.result.now) c.deref.ensures ∙ ap (rows_in l) c.part.ensures ∙ sym (rows_in-part l (parts_given c.self.inside.given) c.self.inside.own c.self.invariant) ∙ ap (rows_in l) c.self.view_is) c.rows.ensures
