-- The plan as a function is the plan: there is but one.
use Rattle.std.proofs.Common.{◌≡◌, ℕ, zero, suc, ◌+◌, ◌*◌, ◌<◌, ◌≤◌, not, List, [], ◌∷◌, ◌++◌, length, reverse, arith, refl, sym, ap, ◌∙◌, subst}
use Rattle.std.specs.Prelude.{◌⊎◌}
use Rattle.std.proofs.Common.{inl, inr}
use Rattle.std.specs.List.{Contains}
use Rattle.std.proofs.lemmas.List.{reverse-append, reverse-reverse}
use Rattle.std.proofs.lemmas.List.Sums.{count_by-le-length}
use Rattle.core_language.specs.declared.record.CompiledLibrary.{CompiledLibrary}
use Rattle.core_plan.specs.Plan.{RisesFrom, IsPlan}
use Rattle.core_plan.specs.Work.{Work, follow, marked_from}
use Rattle.core_plan.proofs.MarkLemmas.{contains_later, contains_cases}
use Rattle.core_plan.proofs.WorkLemmas.{Known, weight, start_known, known_on, known_plan}
use Rattle.core_plan.specs.Planned.{followed_by, followed, begun, plan_of}

-- ---- lists that rise, with the same elements

pub rises_above : (low n : ℕ) (xs : List ℕ) → RisesFrom low xs → Contains xs n → low ≤ n
rises_above low n [] h c = absurd (let l : c.0 < 0 = c.1 in omega arith)
rises_above low n (x ∷ xs) h c = go (λ d. rises_above (suc x) n xs h.1 d) (contains_cases x n xs c)
  where
    go : (Contains xs n → suc x ≤ n) → (x ≡ n) ⊎ Contains xs n → low ≤ n
    go rest (inl e) = omega (arith, h.0, e)
    go rest (inr d) = omega (arith, h.0, rest d)

abbrev Within : List ℕ → List ℕ → Type 0
Within xs ys = (n : ℕ) → Contains xs n → Contains ys n

none_within : (x : ℕ) (xs : List ℕ) → Within (x ∷ xs) [] → ⊥
none_within x xs h = let c = h x (0, omega arith, omega arith) in let l : c.0 < 0 = c.1 in absurd (omega arith)

first_above : (low x y : ℕ) (xs ys : List ℕ) → RisesFrom low (y ∷ ys) → Within (x ∷ xs) (y ∷ ys) → y ≤ x
first_above low x y xs ys r h = go (contains_cases y x ys (h x (0, omega arith, omega arith)))
  where
    go : (y ≡ x) ⊎ Contains ys x → y ≤ x
    go (inl e) = omega (arith, e)
    go (inr c) = let l = rises_above (suc y) x ys r.1 c in omega (arith, l)

rest_within : (low x y : ℕ) (xs ys : List ℕ) → RisesFrom low (x ∷ xs) → x ≡ y → Within (x ∷ xs) (y ∷ ys) → Within xs ys
rest_within low x y xs ys r e h n c = go (contains_cases y n ys (h n (contains_later x n xs c)))
  where
    go : (y ≡ n) ⊎ Contains ys n → Contains ys n
    go (inl same) = absurd (let l = rises_above (suc x) n xs r.1 c in omega (arith, l, same, e))
    go (inr d) = d

one_rising : (low : ℕ) (xs ys : List ℕ) → RisesFrom low xs → RisesFrom low ys → Within xs ys → Within ys xs → xs ≡ ys
one_rising low [] [] r s h k = refl
one_rising low [] (y ∷ ys) r s h k = absurd (none_within y ys k)
one_rising low (x ∷ xs) [] r s h k = absurd (none_within x xs h)
one_rising low (x ∷ xs) (y ∷ ys) r s h k =
    let above = first_above low x y xs ys s h in
    let below = first_above low y x ys xs r k in
    let same : x ≡ y = omega (arith, above, below) in
    let further : RisesFrom (suc x) ys = subst (λ n. RisesFrom (suc n) ys) (sym same) s.1 in
    ap (λ n. n ∷ xs) same ∙ ap (λ ns. y ∷ ns) (one_rising (suc x) xs ys r.1 further (rest_within low x y xs ys r same h) (rest_within low y x ys xs s (sym same) k))

one_plan : (records : List CompiledLibrary) (program : CompiledLibrary) (p q : List ℕ) → IsPlan records program p → IsPlan records program q → p ≡ q
one_plan records program p q a b = one_rising 0 p q a.rising b.rising (λ n c. (b.exact n).1 ((a.exact n).0 c)) (λ n c. (a.exact n).1 ((b.exact n).0 c))

-- ---- what waits is followed to its end

module _ (records : List CompiledLibrary) (program : CompiledLibrary) where
  turned : (w : Work) (p : ℕ) (ps : List ℕ) → reverse w.waiting ≡ p ∷ ps → w.waiting ≡ reverse ps ++ p ∷ []
  turned w p ps e = sym (reverse-reverse w.waiting) ∙ ap reverse e ∙ reverse-append (p ∷ []) ps

  waits_none : (w : Work) → reverse w.waiting ≡ [] → w.waiting ≡ []
  waits_none w e = sym (reverse-reverse w.waiting) ∙ ap reverse e

  followed_plan : (n : ℕ) (w : Work) → Known records program w → weight w ≤ n → IsPlan records program (marked_from 0 (followed n records w).marks)
  unfolding followed
  followed_plan zero w k l = known_plan records program w (marked_from 0 w.marks) k (nothing w.waiting (omega (arith, l))) refl
    where
      nothing : (ws : List ℕ) → length ws ≤ 0 → ws ≡ []
      nothing [] h = refl
      nothing (x ∷ xs) h = absurd (omega (arith, h))
  followed_plan (suc n) w k l = go (reverse w.waiting) refl (λ v t m. followed_plan n v t m)
    where
      Later : Type 0
      Later = (v : Work) → Known records program v → weight v ≤ n → IsPlan records program (marked_from 0 (followed n records v).marks)

      go : (ps : List ℕ) → reverse w.waiting ≡ ps → Later → IsPlan records program (marked_from 0 (followed_by (followed n records) records w.marks ps).marks)
      go [] e later = known_plan records program w (marked_from 0 w.marks) k (waits_none w e) refl
      go (p ∷ ps) e later =
          let v : Work = record { marks = w.marks; waiting = reverse ps } in
          let on = known_on records program w v (follow records p v) p k refl (turned w p ps e) refl in
          later (follow records p v) on.0 (omega (arith, on.1, l))

  pub is_plan : IsPlan records program (plan_of records program)
  unfolding plan_of
  is_plan =
      let known = start_known records program (begun records program) refl in
      let most = count_by-le-length not (begun records program).marks in
      let sized = known.sound.sized in
      followed_plan (2 * length records + length (begun records program).waiting) (begun records program) known (omega (arith, most, sized))

  -- the places that chains of references reach are those of the plan
  pub plan_is : (plan : List ℕ) → IsPlan records program plan → plan ≡ plan_of records program
  plan_is plan h = one_plan records program plan (plan_of records program) h is_plan
