-- Where records stand.
use Rattle.std.proofs.Common.{◌≡◌, ℕ, suc, ◌+◌, ◌<◌, Bool, true, false, List, [], ◌∷◌, length, get_or, drop, cond, arith, refl, sym, ap, ◌∙◌, add-one, drop-cons}
use Rattle.std.specs.Prelude.{Option, Some, if◌then◌else◌}
use Rattle.base_data.specs.declared.library.LibName.{LibName}
use Rattle.std.specs.Ordering.{is_eq}
use Rattle.base_data.specs.NameOrder.{library_cmp}
use Rattle.base_data.specs.Same.{same_library}
use Rattle.base_data.specs.contracts.library.LibNameOrd.TheImpl.Laws as library_laws
use Rattle.core_language.specs.declared.record.CompiledLibrary.{CompiledLibrary}
use Rattle.core_plan.specs.Places.{place_from, place_of}

place_within : (i : ℕ) (name : LibName) (rs : List CompiledLibrary) (p : ℕ) → place_from i name rs ≡ Some p → p < i + length rs
place_within i name [] p h = absurd (cc)
place_within i name (r ∷ rs) p h = go (same_library r.name name) (place_within (suc i) name rs p) h
  where
    go : (b : Bool) → (place_from (suc i) name rs ≡ Some p → p < suc i + length rs) → (if b then Some i else place_from (suc i) name rs) ≡ Some p → p < i + suc (length rs)
    go true rest k = let e : i ≡ p = cc in omega arith
    go false rest k = let l = rest k in omega arith

-- a record that has a place is there
pub place_there : (records : List CompiledLibrary) (name : LibName) (p : ℕ) → place_of records name ≡ Some p → p < length records
place_there records name p h = let l = place_within 0 name records p h in omega arith

-- the loop from the last record on: each record's place goes before those of the records behind it
pub place_put : (records : List CompiledLibrary) (i : ℕ) (r : CompiledLibrary) (name : LibName) (old : Option ℕ) → i < length records → old ≡ place_from (i + 1) name (drop (i + 1) records)
    → cond (is_eq (library_cmp (get_or records i r).name name)) (Some i) old ≡ place_from i name (drop i records)
place_put records i r name old h is =
    ap (λ b. cond b (Some i) old) (sym (library_laws.matches_eq-law (get_or records i r).name name))
    ∙ ap (λ o. if same_library (get_or records i r).name name then Some i else o) (is ∙ rw add-one refl)
    ∙ ap (place_from i name) (sym (drop-cons records i r h))
