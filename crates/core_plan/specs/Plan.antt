-- Which libraries a program needs when it runs.
use Rattle.std.specs.Prelude.{◌≡◌, ◌↔◌, ◌≤◌, ℕ, suc, List, [], ◌∷◌, Some, slice_get}
use Rattle.std.specs.List.{Contains}
use Rattle.base_data.specs.declared.library.LibName.{LibName}
use Rattle.core_language.specs.declared.record.CompiledLibrary.{CompiledLibrary}
use Rattle.core_plan.specs.Places.{place_of}

-- a chain of references leads from the program to the record at a place
pub data Reached (records : List CompiledLibrary) (program : CompiledLibrary) : ℕ → Type 0 where
  mentioned : (name : LibName) (place : ℕ) → Contains program.refs name → place_of records name ≡ Some place → Reached records program place
  further : (from : ℕ) (r : CompiledLibrary) (name : LibName) (place : ℕ) → Reached records program from → slice_get records from ≡ Some r
      → Contains r.refs name → place_of records name ≡ Some place → Reached records program place

-- each number is above those before it, and none is below the first
abbrev pub RisesFrom : ℕ → List ℕ → Type 0
RisesFrom low [] = Unit {0}
RisesFrom low (n ∷ ns) = (low ≤ n) × RisesFrom (suc n) ns

-- the places that chains of references reach, and no others, rising
pub record IsPlan (records : List CompiledLibrary) (program : CompiledLibrary) (plan : List ℕ) : Type 0 where
  pub rising : RisesFrom 0 plan
  pub exact : (place : ℕ) → Contains plan place ↔ Reached records program place
