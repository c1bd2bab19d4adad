-- The text of a binding map.
use Rattle.std.specs.Prelude.{◌≡◌, ℕ, List, [], ◌∷◌, ◌++◌, Option, Some, None, if◌then◌else◌, codes, length, min}
use Rattle.std.specs.Option.{option_map}
use Rattle.base_data.specs.FaultLine.{text_shown, place_text}
use Rattle.base_data.specs.Op.{op_text}
use Rattle.base_data.specs.Place.{place}
use Rattle.base_data.specs.declared.span.Span.{Span}
use Rattle.core_language.specs.declared.link.Target.{Target}
use Rattle.core_language.specs.declared.link.Target.TheVariants as target
use Rattle.load_import.specs.Table.{same_text, value_of}
use Rattle.load_files.specs.declared.found.Source.{Source}
use Rattle.run_xref.specs.declared.marks.MarkedSource.{MarkedSource}
use Rattle.run_xref.specs.declared.pair.Pair.{Pair}

-- the bytes of files, by their paths
abbrev pub FileBytes : Type 0
FileBytes = List ℕ → Option (List ℕ)

abbrev pub held_at : List ℕ → Source → Option (List ℕ)
held_at path source = if same_text source.path path then source.held else None

abbrev pub or_held : Option (List ℕ) → Option (List ℕ) → Option (List ℕ)
or_held None later = later
or_held (Some bytes) later = Some bytes

-- those of the first source with the path that was there
abbrev pub held_in : List Source → FileBytes
held_in [] path = None
held_in (s ∷ ss) path = or_held (held_at path s) (held_in ss path)

abbrev pub or_none : Option (List ℕ) → List ℕ
or_none None = []
or_none (Some bytes) = bytes

-- the line and the column of an offset; one past the end counts as the end
abbrev pub place_in : List ℕ → ℕ → ℕ × ℕ
place_in bytes offset = place bytes (min offset (length bytes))

-- FILE:LINE:COLUMN
abbrev pub place_shown : FileBytes → Span → List ℕ
place_shown bytes span = text_shown span.file ++ codes ":" ++ place_text (place_in (or_none (bytes span.file)) span.from)

abbrev pub name_of : ℕ → List ℕ
name_of op = op_text op

abbrev pub target_shown : FileBytes → Target → List ℕ
target_shown bytes (target.Place span) = place_shown bytes span
target_shown bytes target.Nowhere = codes "-"
target_shown bytes (target.Prim op) = name_of op.0

abbrev pub line : FileBytes → Pair → List ℕ
line bytes p = place_shown bytes p.span ++ codes " " ++ target_shown bytes p.target ++ codes "\n"

abbrev pub lines : FileBytes → List Pair → List ℕ
lines bytes [] = []
lines bytes (p ∷ ps) = line bytes p ++ lines bytes ps

-- a line for each pair
unfoldable pub xref_text : List Source → List Pair → List ℕ
xref_text sources pairs = lines (held_in sources) pairs

-- A table of the files that were there.

abbrev pub lines_at : List (List ℕ × MarkedSource) → FileBytes
lines_at files path = option_map (λ (l : MarkedSource). l.source.now) (value_of path files)

abbrev pub AreLines : List Source → List (List ℕ × MarkedSource) → Type 0
AreLines sources files = (path : List ℕ) → lines_at files path ≡ held_in sources path
