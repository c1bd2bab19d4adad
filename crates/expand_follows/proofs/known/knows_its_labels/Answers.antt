use Rattle.std.proofs.Common.{◌∙◌, sym, ap, map, List}
use Rattle.std.specs.List.{flat_map}
use Rattle.base_data.specs.declared.imported_name.ImportedName.{ImportedName}
use Rattle.stx_tree.specs.declared.frame_row.FrameRow.{FrameRow}
use Rattle.law_core.specs.Follows.{bound_labels, export_labels, row_labels}
use Rattle.law_core.specs.Words.{each}
use Rattle.expand_follows.specs.Pieces.{known_by}
use Rattle.expand_follows.proofs.KnownLemmas.{each_known, rows_decide}
use Rattle.expand_follows.proofs.known.knows_its_labels.Goals as goal

pub returns-then-exports_are_known : goal.returns-then-exports_are_known
returns-then-exports_are_known c =
    let own = c.args.own.now.entries in
    let earlier = flat_map bound_labels c.args.earlier.now in
    rows_decide c.args.one.now c.args.earlier.now
    (sym c.if-exports_are_known.true ∙ c.exports_are_known.ensures
    ∙ ap (λ (es : List ImportedName). each (known_by own earlier) (map (λ (e : ImportedName). e.label) es)) c.as_slice.ensures
    ∙ each_known own c.args.one.now c.args.earlier.now c.requires (export_labels c.args.one.now))
    c.rows_are_known.result
    (c.rows_are_known.ensures
    ∙ ap (λ (fs : List FrameRow). each (known_by own earlier) (map (λ (f : FrameRow). f.label) fs)) c.as_slice-then-exports_are_known.ensures
    ∙ each_known own c.args.one.now c.args.earlier.now c.requires (row_labels c.args.one.now))
