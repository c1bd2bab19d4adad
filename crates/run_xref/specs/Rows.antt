-- Pairs by numbers: files are numbered in the order of their first links.
use Rattle.std.specs.Prelude.{ℕ, List, [], ◌∷◌, Option, Some, None, slice_get}
use Rattle.base_data.specs.declared.span.Span.{Span}
use Rattle.core_language.specs.declared.link.Link.{Link}
use Rattle.core_language.specs.declared.link.Target.{Target}
use Rattle.core_language.specs.declared.link.Target.TheVariants as target
use Rattle.load_import.specs.Shared as names
use Rattle.load_import.specs.Table.{put_first}
use Rattle.run_xref.specs.declared.pair.Pair.{Pair}
use Rattle.run_xref.specs.declared.rows.Aim.{Aim}
use Rattle.run_xref.specs.declared.rows.Aim.TheVariants as aim
use Rattle.run_xref.specs.declared.rows.At.{At}
use Rattle.run_xref.specs.declared.rows.LinkRow.{LinkRow}

abbrev pub FileNames : Type 0
FileNames = List (List ℕ × Unit {0})

abbrev pub with_files : FileNames → List Link → FileNames
with_files files [] = files
with_files files (k ∷ ks) = with_files (put_first files (k.span.file, tt)) ks

-- the files of links, each once in the order of first links
abbrev pub files_of : List Link → FileNames
files_of links = with_files [] links

abbrev pub or_first : Option ℕ → ℕ
or_first None = 0
or_first (Some n) = n

abbrev pub number_of : FileNames → List ℕ → ℕ
number_of files file = or_first (names.place_of file files)

abbrev pub or_unnamed : Option (List ℕ × Unit {0}) → List ℕ
or_unnamed None = []
or_unnamed (Some row) = row.0

abbrev pub file_at : FileNames → ℕ → List ℕ
file_at files n = or_unnamed (slice_get files n)

abbrev pub at_of : FileNames → Span → At
at_of files span = record { file = number_of files span.file; from = span.from; to = span.to }

abbrev pub aim_of : FileNames → Target → Aim
aim_of files (target.Place span) = aim.Place (at_of files span)
aim_of files target.Nowhere = aim.Nowhere
aim_of files (target.Prim o) = aim.Prim o

abbrev pub row_of : FileNames → Pair → LinkRow
row_of files p = record { at = at_of files p.span; aim = aim_of files p.target }

abbrev pub span_at : FileNames → At → Span
span_at files at = record { file = file_at files at.file; from = at.from; to = at.to }

abbrev pub target_at : FileNames → Aim → Target
target_at files (aim.Place at) = target.Place (span_at files at)
target_at files aim.Nowhere = target.Nowhere
target_at files (aim.Prim o) = target.Prim o

abbrev pub pair_at : FileNames → LinkRow → Pair
pair_at files r = record { span = span_at files r.at; target = target_at files r.aim }
