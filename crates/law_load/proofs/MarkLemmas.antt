-- Which marks are set where those of a library come to others.
use Rattle.std.proofs.Common.{◌≡◌, ℕ, zero, suc, ◌+◌, ◌<◌, Bool, true, false, List, [], ◌∷◌, length, replicate, Option, Some, None, refl, sym, ap, ◌∙◌, inl, inr, arith}
use Rattle.std.specs.Prelude.{◌⊎◌, ◌==◌, ◌||◌, slice_get, option_map}
use Rattle.std.specs.Cmp.{unsigned_Decides}
use Rattle.load_files.specs.Found.{is_marked, is_needed_by, marks_with, with_needs, no_needs, most_libraries}
use Rattle.load_files.specs.declared.found.Found.{Found}
use Rattle.law_load.specs.Laws.{Needs}

mark_at : (place : ℕ) (ms : List Bool) (found : Found) (p : ℕ) → slice_get (marks_with place ms found) p ≡ option_map (λ m. m || is_needed_by found (place + p)) (slice_get ms p)
unfolding marks_with
mark_at place [] found p = refl
mark_at place (m ∷ ms) found zero = let e : place ≡ place + 0 = omega arith in ap (λ k. Some (m || is_needed_by found k)) e
mark_at place (m ∷ ms) found (suc p) =
    let e : suc place + p ≡ place + suc p = omega arith in
    mark_at (suc place) ms found p ∙ ap (λ k. option_map (λ m. m || is_needed_by found k) (slice_get ms p)) e

mark_of : (needs : List Bool) (found : Found) (p : ℕ) → slice_get (with_needs needs found) p ≡ option_map (λ m. m || is_needed_by found p) (slice_get needs p)
mark_of needs found p =
    let e : 0 + p ≡ p = omega arith in
    mark_at 0 needs found p ∙ ap (λ k. option_map (λ m. m || is_needed_by found k) (slice_get needs p)) e

length-marks : (place : ℕ) (ms : List Bool) (found : Found) → length (marks_with place ms found) ≡ length ms
unfolding marks_with
length-marks place [] found = refl
length-marks place (m ∷ ms) found = ap suc (length-marks (suc place) ms found)

pub length-with_needs : (needs : List Bool) (found : Found) → length (with_needs needs found) ≡ length needs
length-with_needs needs found = length-marks 0 needs found

-- a mark stays
pub mark_stays : (needs : List Bool) (found : Found) (p : ℕ) → slice_get needs p ≡ Some true → slice_get (with_needs needs found) p ≡ Some true
mark_stays needs found p h = mark_of needs found p ∙ ap (option_map (λ m. m || is_needed_by found p)) h

-- a mark comes, if it has a place
pub mark_comes : (needs : List Bool) (found : Found) (p : ℕ) → p < length needs → is_needed_by found p ≡ true → slice_get (with_needs needs found) p ≡ Some true
mark_comes needs found p within needed = mark_of needs found p ∙ go needs p within
  where
    by : (m : Bool) → (m || is_needed_by found p) ≡ true
    by true = refl
    by false = needed

    go : (ms : List Bool) (i : ℕ) → i < length ms → option_map (λ m. m || is_needed_by found p) (slice_get ms i) ≡ Some true
    go [] i h = absurd (omega arith)
    go (m ∷ ms) zero h = ap (λ b. Some b) (by m)
    go (m ∷ ms) (suc i) h = go ms i (omega (arith, h))

-- a library needs itself, and what it has marked
pub needs_itself : (found : Found) → is_needed_by found found.place ≡ true
needs_itself found = ap (λ b. b || is_marked (slice_get found.needs found.place)) ((unsigned_Decides found.place found.place).1 refl)

pub needs_marked : (found : Found) (p : ℕ) → Needs found p → is_needed_by found p ≡ true
needs_marked found p h = by (p == found.place)
  where
    by : (b : Bool) → (b || is_marked (slice_get found.needs p)) ≡ true
    by true = refl
    by false = ap is_marked h

-- a mark that is set
pub mark_is : (o : Option Bool) → is_marked o ≡ true → o ≡ Some true
mark_is None h = cc
mark_is (Some m) h = ap Some h

-- and nothing else
needs_cases : (found : Found) (p : ℕ) → is_needed_by found p ≡ true → (p ≡ found.place) ⊎ Needs found p
needs_cases found p h = by (p == found.place) refl h
  where
    by : (b : Bool) → (p == found.place) ≡ b → (b || is_marked (slice_get found.needs p)) ≡ true → (p ≡ found.place) ⊎ Needs found p
    by true e h = inl ((unsigned_Decides p found.place).0 e)
    by false e h = inr (mark_is (slice_get found.needs p) h)

-- where a mark comes from
pub mark_cases : (needs : List Bool) (found : Found) (p : ℕ) → slice_get (with_needs needs found) p ≡ Some true → (slice_get needs p ≡ Some true) ⊎ ((p ≡ found.place) ⊎ Needs found p)
mark_cases needs found p h = by (slice_get needs p) refl (sym (mark_of needs found p) ∙ h)
  where
    Cases : Type 0
    Cases = (slice_get needs p ≡ Some true) ⊎ ((p ≡ found.place) ⊎ Needs found p)

    by : (o : Option Bool) → slice_get needs p ≡ o → option_map (λ m. m || is_needed_by found p) o ≡ Some true → Cases
    by None e h = absurd (cc)
    by (Some true) e h = inl e
    by (Some false) e h = let needed : is_needed_by found p ≡ true = cc in inr (needs_cases found p needed)

-- ---- no marks

length-none : (n : ℕ) → length (replicate n false) ≡ n
length-none zero = refl
length-none (suc n) = ap suc (length-none n)

pub none_set : (n p : ℕ) → slice_get (replicate n false) p ≡ Some true → ⊥
none_set zero p h = cc
none_set (suc n) zero h = cc
none_set (suc n) (suc p) h = none_set n p h

pub length-no_needs : length no_needs ≡ most_libraries
unfolding no_needs
length-no_needs = length-none most_libraries

pub no_mark : (p : ℕ) → slice_get no_needs p ≡ Some true → ⊥
unfolding no_needs
no_mark p h = none_set most_libraries p h
