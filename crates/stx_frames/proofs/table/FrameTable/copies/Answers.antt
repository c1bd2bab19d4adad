use Rattle.std.proofs.Common.{sym, ap, ◌∙◌, ◌++◌, List}
use Rattle.base_data.specs.declared.name.Label.{Label}
use Rattle.stx_tree.specs.declared.frame_row.FrameRow.{FrameRow}
use Rattle.stx_frames.specs.declared.key.Key.{Key}
use Rattle.stx_frames.specs.Rows.{Row, rows_of}
use Rattle.stx_frames.specs.Listed.{rows_from}
use Rattle.stx_frames.proofs.TableLemmas.{rows_from-both}
use Rattle.stx_frames.proofs.table.FrameTable.copies.Goals as goal

pub returns : goal.returns
returns c =
    let f = c.args.frame.now in
    let later = rows_from f (rows_of c.self.inside.later.entries) in
    c.from_vec.ensures ∙ c.in_ok-put_later.ensures
    ∙ ap (λ (rs : List FrameRow). rs ++ later) (c.in_ok-put_first.ensures ∙ ap (λ (rs : List FrameRow). rs ++ rows_from f (rows_of c.deref.result.now)) c.in_ok-list.ensures.items
    ∙ ap (λ (es : List (Key × Label)). rows_from f (rows_of es)) c.deref.ensures.value)
    ∙ sym (rows_from-both f c.self.inside.first.items c.self.inside.later.entries) ∙ ap (λ (rs : List Row). rows_from f rs) c.self.view_is
