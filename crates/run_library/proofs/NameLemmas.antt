-- Looking for the record of a library among those that are needed.
use Rattle.std.proofs.Common.{◌≡◌, ℕ, ◌+◌, ◌<◌, ◌≤◌, Bool, true, false, List, ◌∷◌, length, get_or, drop, Option, Some, None, refl, sym, ap, ◌∙◌}
use Rattle.std.specs.Prelude.{slice_get, if◌then◌else◌}
use Rattle.base_data.specs.Same.{same_library}
use Rattle.base_data.specs.declared.library.LibName.{LibName}
use Rattle.core_language.specs.declared.record.CompiledLibrary.{CompiledLibrary}
use Rattle.load_files.specs.Found.{places_from}
use Rattle.expand_standing.specs.Start.{or_skip, records_at}
use Rattle.run_library.specs.Imports.{named}
use Rattle.run_library.specs.Chosen.{named_at}
use Rattle.run_library.proofs.PlaceLemmas.{places_on, no_places}

abbrev pub or_later : Option CompiledLibrary → Option CompiledLibrary → Option CompiledLibrary
or_later None later = later
or_later (Some r) later = Some r

pub first_named : (name : LibName) (here : Option CompiledLibrary) (rest : List CompiledLibrary) → named name (or_skip here rest) ≡ or_later (named_at name here) (named name rest)
first_named name None rest = refl
first_named name (Some r) rest = by (same_library r.name name) refl
  where
    by : (b : Bool) → same_library r.name name ≡ b → named name (r ∷ rest) ≡ or_later (if same_library r.name name then Some r else None) (named name rest)
    by true e = rw e refl
    by false e = rw e refl

module _ (name : LibName) (records : List CompiledLibrary) (ms : List Bool) (i : ℕ) (whole : Option CompiledLibrary) where
  abbrev among : List ℕ → Option CompiledLibrary
  among ps = named name (records_at records ps)

  abbrev later : Option CompiledLibrary
  later = among (places_from (i + 1) (drop (i + 1) ms))

  here : i < length ms → get_or ms i false ≡ true → among (places_from i (drop i ms)) ≡ or_later (named_at name (slice_get records i)) later
  here h e = ap among (places_on ms i true h e) ∙ first_named name (slice_get records i) (records_at records (places_from (i + 1) (drop (i + 1) ms)))

  pub named_on : i < length ms → get_or ms i false ≡ true → named_at name (slice_get records i) ≡ None → among (places_from i (drop i ms)) ≡ whole → later ≡ whole
  named_on h e none so_far = sym (here h e ∙ ap (λ o. or_later o later) none) ∙ so_far

  pub not_asked : i < length ms → get_or ms i false ≡ false → among (places_from i (drop i ms)) ≡ whole → later ≡ whole
  not_asked h e so_far = sym (ap among (places_on ms i false h e)) ∙ so_far

  pub named_here : (r : CompiledLibrary) → i < length ms → get_or ms i false ≡ true → named_at name (slice_get records i) ≡ Some r → among (places_from i (drop i ms)) ≡ whole → whole ≡ Some r
  named_here r h e there so_far = sym so_far ∙ here h e ∙ ap (λ o. or_later o later) there

  pub named_end : length ms ≤ i → among (places_from i (drop i ms)) ≡ whole → whole ≡ None
  named_end h so_far = sym so_far ∙ ap among (no_places ms i h)
