-- What files and stores hold: a finite map from paths to bytes.
use Rattle.std.specs.Prelude.{ℕ, nat_lt, if◌then◌else◌, List, length, map, find, reverse, Option, Some, None, option_map, Vec, String, string_bytes}
use Rattle.std.specs.Global.{Global}
use Rattle.std.specs.Str.{bytes_eq}

-- pairs of a path and its bytes, read as a finite map: of two pairs with one path the last counts
abbrev pub Paths : Type 0
Paths = List (List ℕ × List ℕ)

-- a list of pairs in memory, as paths and bytes
abbrev pub paths_of : List (String Global × Vec ℕ Global) → Paths
paths_of pairs = map (λ pair. (string_bytes pair.0, pair.1.items)) pairs

-- the bytes of the last pair with a path
abbrev pub at_path : Paths → List ℕ → Option (List ℕ)
at_path files path = option_map (λ pair. pair.1) (find (λ pair. bytes_eq pair.0 path) (reverse files))

-- what reading a path gives
pub data Reading : Type 0 where
  bytes : List ℕ → Reading
  longer : Reading
  absent : Reading

-- what the bytes at a path give to a reader that takes at most `max` of them
abbrev pub read_of : Option (List ℕ) → ℕ → Reading
read_of None max = absent
read_of (Some held) max = if nat_lt max (length held) then longer else bytes held
