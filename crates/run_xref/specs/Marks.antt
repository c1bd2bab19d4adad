-- Places along a file, from which lines and columns are counted.
use Rattle.std.specs.Prelude.{◌≡◌, ℕ, ◌+◌, ◌-◌, ◌≤◌, Bool, true, false, List, [], ◌∷◌, ◌++◌, Option, Some, None, length, drop, slice_get, nat_le, if◌then◌else◌, ◌/◌}
use Rattle.base_data.specs.Place.{place, place_from}
use Rattle.run_xref.specs.declared.marks.SourceMark.{SourceMark}

-- counting on from a mark comes to the place of an offset
abbrev pub Leads : List ℕ → ℕ → SourceMark → Type 0
Leads source offset m = place_from (offset - m.before) (drop m.before source) (offset - m.before) (m.line, m.column) ≡ place source offset

abbrev pub IsPlaced : List ℕ → SourceMark → Type 0
IsPlaced source m = (offset : ℕ) → m.before ≤ offset → offset ≤ length source → Leads source offset m

abbrev pub ArePlaced : List ℕ → List SourceMark → Type 0
ArePlaced source marks = (k : ℕ) (m : SourceMark) → slice_get marks k ≡ Some m → (m.before ≤ length source) × IsPlaced source m

abbrev pub first_mark : SourceMark
first_mark = record { before = 0; line = 1; column = 1 }

-- the mark behind a piece
abbrev pub next_mark : SourceMark → ℕ → Bool → SourceMark
next_mark m size true = record { before = m.before + size; line = m.line + 1; column = 1 }
next_mark m size false = record { before = m.before + size; line = m.line; column = m.column + 1 }

-- a mark more, where there are too few for what lies before the next
abbrev pub kept : List SourceMark → SourceMark → ℕ → List SourceMark
kept marks m next = if nat_le (length marks) (next / 64) then marks ++ m ∷ [] else marks

abbrev pub or_first : Option SourceMark → ℕ → SourceMark
or_first None offset = first_mark
or_first (Some m) offset = if nat_le m.before offset then m else first_mark

abbrev pub mark_before : List SourceMark → ℕ → SourceMark
mark_before marks offset = or_first (slice_get marks (offset / 64)) offset
