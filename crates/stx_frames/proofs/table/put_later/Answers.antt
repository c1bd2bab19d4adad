use Rattle.std.proofs.Common.{◌≡◌, sym, ap, ◌∙◌, ◌++◌, List, ◌<◌, ◌+◌, drop, length}
use Rattle.std.specs.Prelude.{Some, slice_get}
use Rattle.std.specs.Option.{option_map}
use Rattle.std.proofs.lemmas.Option.{slice_get_within}
use Rattle.base_data.specs.declared.name.Label.{Label}
use Rattle.stx_frames.specs.declared.key.Key.{Key}
use Rattle.stx_tree.specs.declared.frame_row.FrameRow.{FrameRow}
use Rattle.stx_frames.specs.Rows.{row_of, rows_of}
use Rattle.stx_frames.specs.Listed.{row_from, rows_from}
use Rattle.stx_frames.proofs.ListedLemmas.{copied_more, rows_of-at}
use Rattle.stx_frames.proofs.table.put_later.Goals as goal

pub loop-i-preserved : goal.loop-i-preserved
loop-i-preserved c =
    let f = c.args.frame.now in
    let rs = rows_of c.args.rows.now.entries in
    let i = c.loop-i.i in
    let e : Key × Label = (c.in-Some.key.now, c.in-Some.label.now) in
    let at : Some (row_of e) ≡ slice_get rs i = rows_of-at c.args.rows.now.entries i e c.in-Some.ensures.entry in
    let below : i < length rs = slice_get_within rs i (row_of e) (sym at) in
    ap (λ (xs : List FrameRow). xs ++ rows_from f (drop (i + 1) rs)) c.in_ok-push.ensures.items
    ∙ copied_more f rs i c.in_ok-row.row c.loop-i.list.items _ below (ap Some c.in_ok-row.ensures ∙ ap (option_map (row_from f)) at) c.loop-i.invariant
