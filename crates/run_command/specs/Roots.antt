-- The directories under which libraries are looked for.
use Rattle.std.specs.Prelude.{Bool, List, length, Option, Some, None, ◌==◌, ◌||◌, nat_lt, if◌then◌else◌}
use Rattle.std.specs.List.{list_any, slice_split}
use Rattle.clap.specs.Words.{Text}

-- what stands between the colons (58)
abbrev pub directories : Text → List Text
directories word = slice_split (λ b. b == 58) word

-- a 17th, or an empty one
abbrev pub are_refused : List Text → Bool
are_refused names = nat_lt 16 (length names) || list_any (λ name. length name == 0) names

abbrev pub roots_of : Text → Option (List Text)
roots_of word = if are_refused (directories word) then None else Some (directories word)
