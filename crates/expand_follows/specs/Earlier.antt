-- The records before a record, and the tables of what they bind and define.
use Rattle.std.specs.Prelude.{◌≡◌, ℕ, nat_eq, Bool, false, List, [], ◌∷◌, ◌++◌, Option, None, Some, is_some, slice_get, if◌then◌else◌}
use Rattle.std.specs.Map.{lookup}
use Rattle.base_data.specs.Same.{same_library}
use Rattle.base_data.specs.declared.library.LibName.{LibName}
use Rattle.base_data.specs.declared.name.Label.{Label}
use Rattle.core_language.specs.Labels.{same_label}
use Rattle.core_language.specs.declared.record.CompiledLibrary.{CompiledLibrary}
use Rattle.law_core.specs.Follows.{bound_labels}
use Rattle.law_core.specs.Records.{defined}
use Rattle.law_core.specs.Words.{among}
use Rattle.expand_follows.specs.declared.earlier.Places.{Places}

abbrev pub has_name : LibName → CompiledLibrary → Bool
has_name name r = same_library name r.name

abbrev pub has_bound : Label → CompiledLibrary → Bool
has_bound l r = among same_label (bound_labels r) l

abbrev pub has_defined : Label → CompiledLibrary → Bool
has_defined l r = among same_label (defined r) l

abbrev pub has_at : (CompiledLibrary → Bool) → Option CompiledLibrary → Bool
has_at has None = false
has_at has (Some r) = has r

abbrev pub is_place : Option ℕ → ℕ → Bool
is_place None n = false
is_place (Some p) n = nat_eq p n

-- a table tells the only record that has something
abbrev pub Tells : {X : Type 0} → (X → CompiledLibrary → Bool) → (X → Option ℕ) → List CompiledLibrary → Type 0
Tells {X} has find records = (x : X) (n : ℕ) → has_at (has x) (slice_get records n) ≡ is_place (find x) n

pub record ArePlaces (places : Places) (records : List CompiledLibrary) : Type 0 where
  pub names : Tells has_name (λ x. lookup (same_library x) places.names.entries) records
  pub bound : Tells has_bound (λ x. lookup (same_label x) places.bound.entries) records
  pub defined : Tells has_defined (λ x. lookup (same_label x) places.defined.entries) records

-- ---- what is added to the tables for one record more

-- each of these is new
abbrev pub adds : {X : Type 0} → (X → X → Bool) → List (X × ℕ) → List X → ℕ → Option (List (X × ℕ))
adds same rows [] place = Some rows
adds same rows (x ∷ xs) place = if is_some (lookup (same x) rows) then None else adds same (rows ++ (x, place) ∷ []) xs place

abbrev pub adds_labels : List (Label × ℕ) → List Label → ℕ → Option (List (Label × ℕ))
adds_labels = adds same_label

-- ---- which of the records are needed

abbrev pub mark_at : Option Bool → Bool
mark_at None = false
mark_at (Some m) = m

abbrev pub is_needed : List Bool → Option ℕ → Bool
is_needed marks None = false
is_needed marks (Some p) = mark_at (slice_get marks p)
