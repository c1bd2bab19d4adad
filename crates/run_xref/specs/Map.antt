-- The binding map of links.
use Rattle.std.specs.Prelude.{List, map}
use Rattle.core_language.specs.declared.link.Link.{Link}
use Rattle.run_xref.specs.Links.{pair_of}
use Rattle.run_xref.specs.Ranked.{ranked}
use Rattle.run_xref.specs.Rows.{FileNames, files_of, row_of, pair_at}
use Rattle.run_xref.specs.declared.pair.Pair.{Pair}
use Rattle.run_xref.specs.declared.rows.LinkRow.{LinkRow}

abbrev pub row_among : FileNames → List Link → Link → LinkRow
row_among files links k = row_of files (pair_of links k)

abbrev pub rows_among : FileNames → List Link → List Link → List LinkRow
rows_among files links some = map (row_among files links) some

abbrev pub ranked_pairs : FileNames → List LinkRow → List Pair
ranked_pairs files rows = map (pair_at files) (ranked rows)

-- what each identifier leads to, each pair once: by file in the order of first links, by `from`, by `to`, and then by
-- target, places in the same order before `Nowhere`, and this before primitives by number
unfoldable pub binding_map : List Link → List Pair
binding_map links = ranked_pairs (files_of links) (rows_among (files_of links) links links)
