-- The places of marks.
use Rattle.std.proofs.Common.{◌≡◌, ℕ, zero, suc, ◌+◌, ◌<◌, ◌≤◌, Bool, true, false, List, [], ◌∷◌, ◌++◌, length, get_or, drop, arith, refl, sym, ap, ◌∙◌, subst, inl, inr, add-one, drop-cons, append_assoc}
use Rattle.std.specs.Prelude.{◌⊎◌, if◌then◌else◌}
use Rattle.std.specs.List.{Contains}
use Rattle.std.proofs.lemmas.List.{drop_all, append-nil}
use Rattle.core_plan.specs.Plan.{RisesFrom}
use Rattle.core_plan.specs.Work.{marked_from}

pub contains_later : {X : Type 0} (x y : X) (xs : List X) → Contains xs y → Contains (x ∷ xs) y
contains_later x y xs h = (suc h.0, omega (arith, h.1), h.2)

pub contains_cases : {X : Type 0} (x y : X) (xs : List X) → Contains (x ∷ xs) y → (x ≡ y) ⊎ Contains xs y
contains_cases x y xs h = go h.0 h.1 h.2
  where
    go : (k : ℕ) → k < length (x ∷ xs) → get_or (x ∷ xs) k y ≡ y → (x ≡ y) ⊎ Contains xs y
    go zero l e = inl e
    go (suc k) l e = inr (k, omega arith, e)

rises_lower : (i : ℕ) (ns : List ℕ) → RisesFrom (suc i) ns → RisesFrom i ns
rises_lower i [] h = tt
rises_lower i (n ∷ ns) h = (omega (arith, h.0), h.1)

pub marks_rise : (i : ℕ) (ms : List Bool) → RisesFrom i (marked_from i ms)
unfolding marked_from
marks_rise i [] = tt
marks_rise i (true ∷ ms) = (omega arith, marks_rise (suc i) ms)
marks_rise i (false ∷ ms) = rises_lower i (marked_from (suc i) ms) (marks_rise (suc i) ms)

-- a mark's place is there
pub mark_is_there : (i : ℕ) (ms : List Bool) (k : ℕ) → get_or ms k false ≡ true → Contains (marked_from i ms) (i + k)
unfolding marked_from
mark_is_there i [] k h = absurd (cc)
mark_is_there i (true ∷ ms) zero h = (0, omega arith, omega arith)
mark_is_there i (false ∷ ms) zero h = absurd (cc)
mark_is_there i (true ∷ ms) (suc k) h =
    let e : suc i + k ≡ i + suc k = omega arith in
    contains_later i (i + suc k) (marked_from (suc i) ms) (subst (Contains (marked_from (suc i) ms)) e (mark_is_there (suc i) ms k h))
mark_is_there i (false ∷ ms) (suc k) h =
    let e : suc i + k ≡ i + suc k = omega arith in
    subst (Contains (marked_from (suc i) ms)) e (mark_is_there (suc i) ms k h)

-- and each place is that of a mark
pub there_is_marked : (i : ℕ) (ms : List Bool) (p : ℕ) → Contains (marked_from i ms) p → (k : ℕ) × (p ≡ i + k) × (get_or ms k false ≡ true)
unfolding marked_from
there_is_marked i [] p h = absurd (let l : h.0 < 0 = h.1 in omega arith)
there_is_marked i (false ∷ ms) p h =
    let r = there_is_marked (suc i) ms p h in
    (suc r.0, omega (arith, r.1), r.2)
there_is_marked i (true ∷ ms) p h = go (contains_cases i p (marked_from (suc i) ms) h) (there_is_marked (suc i) ms p)
  where
    go : (i ≡ p) ⊎ Contains (marked_from (suc i) ms) p → (Contains (marked_from (suc i) ms) p → (k : ℕ) × (p ≡ suc i + k) × (get_or ms k false ≡ true))
        → (k : ℕ) × (p ≡ i + k) × (get_or (true ∷ ms) k false ≡ true)
    go (inl e) later = (0, omega arith, refl)
    go (inr c) later = let r = later c in (suc r.0, omega (arith, r.1), r.2)

pub cons_at : {X : Type 0} (xs : List X) (i : ℕ) (x : X) → i < length xs → x ≡ get_or xs i x → drop i xs ≡ x ∷ drop (i + 1) xs
cons_at xs i x h e = rw add-one (drop-cons xs i x h ∙ ap (λ y. y ∷ drop (suc i) xs) (sym e))

-- the loop over marks
module _ (ms : List Bool) (i : ℕ) (done whole : List ℕ) where
  here : (m : Bool) → i < length ms → get_or ms i false ≡ m → marked_from i (drop i ms) ≡ (if m then i ∷ marked_from (i + 1) (drop (i + 1) ms) else marked_from (i + 1) (drop (i + 1) ms))
  unfolding marked_from
  here m h e = rw add-one (ap (marked_from i) (drop-cons ms i false h) ∙ ap (λ b. if b then i ∷ marked_from (suc i) (drop (suc i) ms) else marked_from (suc i) (drop (suc i) ms)) e)

  pub marked_yes : i < length ms → get_or ms i false ≡ true → done ++ marked_from i (drop i ms) ≡ whole → (done ++ i ∷ []) ++ marked_from (i + 1) (drop (i + 1) ms) ≡ whole
  marked_yes h e so_far = append_assoc done (i ∷ []) (marked_from (i + 1) (drop (i + 1) ms)) ∙ ap (λ ps. done ++ ps) (sym (here true h e)) ∙ so_far

  pub marked_no : i < length ms → get_or ms i false ≡ false → done ++ marked_from i (drop i ms) ≡ whole → done ++ marked_from (i + 1) (drop (i + 1) ms) ≡ whole
  marked_no h e so_far = ap (λ ps. done ++ ps) (sym (here false h e)) ∙ so_far

  pub marked_end : length ms ≤ i → done ++ marked_from i (drop i ms) ≡ whole → done ≡ whole
  unfolding marked_from
  marked_end h so_far = sym (append-nil done) ∙ ap (λ bs. done ++ marked_from i bs) (sym (drop_all i ms h)) ∙ so_far
