-- The fuel of one expansion behind another is the sum of both.
use Rattle.std.proofs.Common.{◌≡◌, ℕ, ◌+◌, Result, Ok, Err, ap, arith}
use Rattle.std.specs.Prelude.{OnOk}
use Rattle.base_data.specs.declared.fault.Fault.{Fault}
use Rattle.run_prelude.specs.Spent.{spent_behind}

module _ {A : Type 0} (r : Result A Fault) (x : A) (spent : A → ℕ) (given : r ≡ Ok x) where
  -- what is spent behind an expansion is spent behind what it gave
  pub behind_given : spent_behind r spent ≡ spent x
  behind_given = ap (λ (s : Result A Fault). spent_behind s spent) given

  pub spent_both : (before middle after first : ℕ) → middle ≡ before + first → after ≡ middle + spent x → after ≡ before + (first + spent_behind r spent)
  spent_both before middle after first one two = omega (arith, one, two, behind_given)

  -- the same where something more may fail
  pub spent_both_by : {X E : Type 0} (result : Result X E) (before middle after first : ℕ) → middle ≡ before + first → OnOk result (after ≡ middle + spent x) → OnOk result (after ≡ before + (first + spent_behind r spent))
  spent_both_by (Ok y) before middle after first one two = spent_both before middle after first one two
  spent_both_by (Err e) before middle after first one two = tt

-- what holds always holds where a call gives something
pub on_ok : {X E : Type 0} (result : Result X E) (P : Type 0) → P → OnOk result P
on_ok (Ok y) P h = h
on_ok (Err e) P h = tt
