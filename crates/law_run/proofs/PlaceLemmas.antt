-- The records at places that are marked.
use Rattle.std.proofs.Common.{◌≡◌, ℕ, zero, suc, ◌+◌, ◌<◌, Bool, true, false, List, [], ◌∷◌, ◌++◌, length, Option, Some, None, refl, sym, ap, subst, ◌∙◌, inl, inr, arith}
use Rattle.std.specs.Prelude.{slice_get}
use Rattle.base_data.specs.Elements.{Among}
use Rattle.core_language.specs.declared.record.CompiledLibrary.{CompiledLibrary}
use Rattle.load_files.specs.Found.{places_from}
use Rattle.expand_standing.specs.Start.{or_skip, records_at}
use Rattle.law_local.proofs.Rising.{first_get}

-- the place of one of them
pub record IsMarked (records : List CompiledLibrary) (k : ℕ) (ms : List Bool) (r : CompiledLibrary) : Type 0 where
  pub place : ℕ
  pub marked : slice_get ms place ≡ Some true
  pub there : slice_get records (k + place) ≡ Some r

-- one behind the first mark
marked_behind : (records : List CompiledLibrary) (k : ℕ) (m : Bool) (ms : List Bool) (r : CompiledLibrary) → IsMarked records (suc k) ms r → IsMarked records k (m ∷ ms) r
marked_behind records k m ms r c =
    let next : suc k + c.place ≡ k + suc c.place = omega arith in
    record { place = suc c.place; marked = c.marked; there = subst (λ i. slice_get records i ≡ Some r) next c.there }

pub marked_from : (records : List CompiledLibrary) (k : ℕ) (ms : List Bool) (r : CompiledLibrary) → Among (records_at records (places_from k ms)) r → IsMarked records k ms r
unfolding places_from
marked_from records k [] r a = elim a [ ]
marked_from records k (false ∷ ms) r a = marked_behind records k false ms r (marked_from records (suc k) ms r a)
marked_from records k (true ∷ ms) r a = by (slice_get records k) refl (λ b. marked_from records (suc k) ms r b) a
  where
    by : (o : Option CompiledLibrary) → slice_get records k ≡ o → (Among (records_at records (places_from (suc k) ms)) r → IsMarked records (suc k) ms r)
        → Among (or_skip o (records_at records (places_from (suc k) ms))) r → IsMarked records k (true ∷ ms) r
    by None e later a = marked_behind records k true ms r (later a)
    by (Some x) e later (inl same) =
        let first : k ≡ k + zero = omega arith in
        record { place = zero; marked = refl; there = subst (λ i. slice_get records i ≡ Some r) first (e ∙ ap Some (sym same)) }
    by (Some x) e later (inr a) = marked_behind records k true ms r (later a)

module _ (before after : List CompiledLibrary) where
  pub first_records : (k : ℕ) (ms : List Bool) → ((p : ℕ) → slice_get ms p ≡ Some true → k + p < length before)
      → records_at (before ++ after) (places_from k ms) ≡ records_at before (places_from k ms)
  unfolding places_from
  first_records k [] low = refl
  first_records k (false ∷ ms) low = first_records (suc k) ms (λ p h. let l = low (suc p) h in omega (arith, l))
  first_records k (true ∷ ms) low =
      let less : k < length before = let l = low zero refl in omega (arith, l) in
      ap (λ o. or_skip o (records_at (before ++ after) (places_from (suc k) ms))) (first_get before after k less)
      ∙ ap (or_skip (slice_get before k)) (first_records (suc k) ms (λ p h. let l = low (suc p) h in omega (arith, l)))

-- such a mark, too, is that of one of the first records
pub low_behind : (n : ℕ) (ms : List Bool) → ((p : ℕ) → slice_get ms p ≡ Some true → suc p < n) → 0 < n → (p : ℕ) → slice_get (true ∷ ms) p ≡ Some true → zero + p < n
low_behind n ms low some zero h = omega (arith, some)
low_behind n ms low some (suc p) h = let l = low p h in omega (arith, l)
