use Rattle.std.proofs.Common.{List, ap, sym, ◌∙◌}
use Rattle.stx_tree.specs.declared.frame_row.FrameRow.{FrameRow}
use Rattle.stx_frames.specs.Scope.{are_new}
use Rattle.expand_standing.proofs.Adopted.{imports-new}
use Rattle.expand_standing.proofs.start.adopt_imports.Goals as goal

pub adopt-requires : goal.adopt-requires
adopt-requires c =
    ap (λ (rs : List FrameRow). are_new rs c.args.frames.now) (c.as_slice.ensures.value ∙ c.in_ok-rows.ensures)
    ∙ imports-new c.args.frame.now c.args.imports.now c.args.frames.now (sym c.has_frame.ensures ∙ c.if-has_frame.false)
