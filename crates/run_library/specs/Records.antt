-- Where the records of libraries stand, and those that are needed.
use Rattle.std.specs.Prelude.{◌≡◌, ℕ, suc, Bool, List, [], ◌∷◌, ◌++◌, Option, None, Some, is_some, if◌then◌else◌}
use Rattle.std.specs.Map.{lookup}
use Rattle.std.specs.Option.{option_map}
use Rattle.base_data.specs.Same.{same_library}
use Rattle.base_data.specs.declared.library.LibName.{LibName}
use Rattle.core_language.specs.declared.record.CompiledLibrary.{CompiledLibrary}
use Rattle.load_files.specs.Found.{places_from}
use Rattle.expand_standing.specs.Start.{records_at}

-- the place of the first record of a library
abbrev pub first_place : LibName → List CompiledLibrary → Option ℕ
first_place name [] = None
first_place name (r ∷ rs) = if same_library name r.name then Some 0 else option_map suc (first_place name rs)

-- the place that a table gives a library
abbrev pub place_in : LibName → List (LibName × ℕ) → Option ℕ
place_in name rows = lookup (same_library name) rows

-- a table gives each library the place of its first record
abbrev pub ArePlaces : List (LibName × ℕ) → List CompiledLibrary → Type 0
ArePlaces rows records = (name : LibName) → place_in name rows ≡ first_place name records

-- a row more, unless its library has one
abbrev pub with_place : List (LibName × ℕ) → LibName → ℕ → List (LibName × ℕ)
with_place rows name place = if is_some (place_in name rows) then rows else rows ++ (name, place) ∷ []

-- the records at the places of these marks
abbrev pub needed_records : List CompiledLibrary → List Bool → List CompiledLibrary
needed_records records needs = records_at records (places_from 0 needs)
