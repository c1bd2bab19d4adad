-- A list of marks, the newest first.
use Rattle.std.specs.Prelude.{Bool, false, List, [], ◌∷◌, Option, None, Some, drop, if◌then◌else◌}
use Rattle.base_data.specs.Same.{same_name}
use Rattle.base_data.specs.declared.library.LibName.TheVariants as library
use Rattle.base_data.specs.declared.name.Mark.{Mark}

abbrev pub same_mark : Mark → Mark → Bool
same_mark m n = same_name m.0 n.0

-- whether a mark is the newest of them
abbrev pub is_first : Mark → List Mark → Bool
is_first m [] = false
is_first m (n ∷ ns) = same_mark n m

-- the mark that a place stands for; one without a mark never shows
abbrev pub mark_of : Option Mark → Mark
mark_of None = record { 0 = record { library = library.Core; number = 0 } }
mark_of (Some m) = m

-- where m is the newest mark it goes; else it comes
abbrev pub unless_first : Mark → List Mark → List Mark
unless_first m ms = if is_first m ms then drop 1 ms else m ∷ ms
