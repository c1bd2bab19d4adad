-- The libraries that the imports of a form name.
use Rattle.std.specs.Prelude.{◌≡◌, ℕ, List, Option, Some, option_map}
use Rattle.std.specs.Map.{lookup}
use Rattle.base_data.specs.Same.{same_library}
use Rattle.base_data.specs.declared.library.LibName.{LibName}
use Rattle.load_import.specs.Names.{Labelled}
use Rattle.load_import.specs.Shared.{IsEnough}
use Rattle.load_import.specs.declared.sources.ImportSource.{ImportSource}

abbrev pub source_in : LibName → List (LibName × ImportSource) → Option ImportSource
source_in library rows = lookup (same_library library) rows

-- the names that a library exports
abbrev pub names_in : LibName → List (LibName × ImportSource) → Option Labelled
names_in library rows = option_map (λ (s : ImportSource). s.exports) (source_in library rows)

-- of each library the names that are still to be joined are known
abbrev pub AreEnough : Labelled → List (LibName × ImportSource) → Type 0
AreEnough all rows = (library : LibName) (s : ImportSource) → source_in library rows ≡ Some s → IsEnough all s.exports s.fresh
