-- What reading a path gives, on its own word.
use Rattle.std.specs.Prelude.{ℕ, ◌≤◌, nat_lt, length, if◌then◌else◌}
use Rattle.base_outside.specs.Contents.{Reading, bytes, longer, absent}
use Rattle.load_files.specs.declared.search.PathContents.{PathContents}
use Rattle.load_files.specs.declared.search.PathContents.TheVariants as a
use Rattle.load_files.specs.declared.search.Sought.{Sought}
use Rattle.load_files.specs.declared.search.Sought.TheVariants as sought

abbrev pub answer_reading : PathContents → Reading
answer_reading (a.Bytes held) = bytes held
answer_reading a.Longer = longer
answer_reading a.Absent = absent

-- a reading that keeps to the limit on its own word
abbrev pub capped : ℕ → Reading → Reading
capped max (bytes held) = if nat_lt max (length held) then longer else bytes held
capped max longer = longer
capped max absent = absent

abbrev pub IsWithin : ℕ → PathContents → Type 0
IsWithin max (a.Bytes held) = length held ≤ max
IsWithin max a.Longer = Unit {0}
IsWithin max a.Absent = Unit {0}

abbrev pub IsSoughtWithin : ℕ → Sought → Type 0
IsSoughtWithin max (sought.Bytes path held) = length held ≤ max
IsSoughtWithin max (sought.Longer path) = Unit {0}
IsSoughtWithin max sought.Nowhere = Unit {0}
