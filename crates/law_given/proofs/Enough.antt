-- A call that gives a value with some fuel gives it with all that is more.
use Rattle.std.proofs.Common.{◌≡◌, ◌≤◌, ◌-◌, ◌+◌, ℕ, List, ◌∷◌, ap, sym, subst, ◌∙◌, arith}
use Rattle.eval_value.specs.declared.value.Value.{Value}
use Rattle.eval_code.specs.Setting.{PlainSetting}
use Rattle.eval_code.specs.State.{WorldState, Outcome, done, faulted, unfit}
use Rattle.law_eval.specs.MoreFuel.{more_left, IsSpent, MoreIsLeft, LeavesAtLeast, LeftIsNotNeeded, LeavesAtMost, FuelFalls}
use Rattle.law_eval.specs.Runs.{ByFuel}
use Rattle.law_eval.proofs.Carried.{everywhere, more_is_left, left_is_not_needed, fuel_falls}
use Rattle.law_given.specs.Calls.{Gives, call_to, call_of, Calls}
use Rattle.law_given.proofs.Unique.{value_or, state_or}

abbrev fuel_or : ℕ → Outcome → ℕ
fuel_or d (done v s n) = n
fuel_or d (faulted f s n) = d
fuel_or d unfit = d

-- nothing was left before that much more was
nothing-left : (m : ℕ) (o : Outcome) (v : Value) (t : WorldState) → more_left m o ≡ done v t m → o ≡ done v t 0
nothing-left m (done x u j) v t e =
    let p : x ≡ v = ap (value_or v) e in
    let q : u ≡ t = ap (state_or t) e in
    let all : j + m ≡ m = ap (fuel_or 0) e in
    let r : j ≡ 0 = omega (arith, all) in
    λ i. done (p i) (q i) (r i)
nothing-left m (faulted f s n) v t e = absurd (cc)
nothing-left m unfit v t e = absurd (cc)

module _ (run : ByFuel) (falls : FuelFalls run) (free : LeftIsNotNeeded run) (more : MoreIsLeft run) where
  pub enough-least : (n m : ℕ) (v : Value) (t : WorldState) → run n ≡ done v t m → m ≤ n
  enough-least n m v t e = subst (LeavesAtMost n) e (falls n)

  -- with what was spent, and whatever is left beside that
  pub enough-by : (n m : ℕ) (v : Value) (t : WorldState) → run n ≡ done v t m → (left : ℕ) → run (left + (n - m)) ≡ done v t left
  enough-by n m v t e = by
    where
      least : m ≤ n
      least = enough-least n m v t e

      parts : (n - m) + m ≡ n
      parts = omega (arith, least)

      whole : run ((n - m) + m) ≡ done v t m
      whole = ap run parts ∙ e

      leaves : LeavesAtLeast m (run ((n - m) + m))
      leaves = subst (LeavesAtLeast m) (sym whole) (omega arith)

      exact : run (n - m) ≡ done v t 0
      exact = nothing-left m (run (n - m)) v t (sym (free (n - m) m leaves) ∙ whole)

      not-spent : IsSpent (run (n - m)) → ⊥
      not-spent h = subst IsSpent exact h

      by : (left : ℕ) → run (left + (n - m)) ≡ done v t left
      by left =
          let turned : left + (n - m) ≡ (n - m) + left = omega arith in
          let none : 0 + left ≡ left = omega arith in
          ap run turned ∙ more (n - m) left not-spent ∙ ap (more_left left) exact ∙ ap (done v t) none

  pub enough-gives : (n m : ℕ) (v : Value) (t : WorldState) → run n ≡ done v t m → Gives run v t
  enough-gives n m v t e = (n - m, enough-by n m v t e)

pub some-fuel : (w : PlainSetting) (f : Value) (args : List Value) (s : WorldState) (n m : ℕ) (v : Value) (t : WorldState) → call_of w (call_to f args) s n ≡ done v t m → Calls w (call_to f args) s v t
some-fuel w f args s n m v t e =
    enough-gives (call_of w (call_to f args) s) ((everywhere FuelFalls fuel_falls).calls w (f ∷ args) s) ((everywhere LeftIsNotNeeded left_is_not_needed).calls w (f ∷ args) s)
    ((everywhere MoreIsLeft more_is_left).calls w (f ∷ args) s) n m v t e
