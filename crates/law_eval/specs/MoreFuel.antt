-- How the meaning depends on the fuel.
use Rattle.std.specs.Prelude.{◌≡◌, ◌≤◌, ◌<◌, ℕ, ◌+◌, ◌⊎◌}
use Rattle.base_region.specs.declared.region.Place.{Place}
use Rattle.core_language.specs.Core.{PlainCore}
use Rattle.eval_value.specs.ToSyntax.{fuel_spent}
use Rattle.eval_code.specs.Meaning.{unrolled, evaluates, eval_of}
use Rattle.eval_code.specs.Setting.{PlainSetting}
use Rattle.eval_code.specs.State.{WorldState, Outcome, done, faulted, unfit}
use Rattle.law_eval.specs.Runs.{ByFuel}

-- the same outcome, with so much more fuel left
abbrev pub more_left : ℕ → Outcome → Outcome
more_left k (done v s n) = done v s (n + k)
more_left k (faulted f s n) = faulted f s (n + k)
more_left k unfit = unfit

-- the fault is that the fuel was spent
abbrev pub IsSpent : Outcome → Type 0
IsSpent (done v s n) = ⊥
IsSpent (faulted f s n) = f ≡ fuel_spent
IsSpent unfit = ⊥

-- Where the fuel wasn't spent, the same comes with more of it, and that is left.
abbrev pub MoreIsLeft : ByFuel → Type 0
MoreIsLeft run = (n k : ℕ) → (IsSpent (run n) → ⊥) → run (n + k) ≡ more_left k (run n)

-- it isn't that the fuel was spent, and so much is left
abbrev pub LeavesAtLeast : ℕ → Outcome → Type 0
LeavesAtLeast k (done v s n) = k ≤ n
LeavesAtLeast k (faulted f s n) = (f ≡ fuel_spent → ⊥) × (k ≤ n)
LeavesAtLeast k unfit = ⊥

-- What is left wasn't needed: the same comes with less fuel by that much.
abbrev pub LeftIsNotNeeded : ByFuel → Type 0
LeftIsNotNeeded run = (n k : ℕ) → LeavesAtLeast k (run (n + k)) → run (n + k) ≡ more_left k (run n)

-- of m units of fuel more than n were spent
abbrev pub SpendsPast : ℕ → ℕ → Outcome → Type 0
SpendsPast n m (done v s left) = n + left < m
SpendsPast n m (faulted f s left) = n + left < m
SpendsPast n m unfit = ⊥

-- more fuel than n is needed: where there is enough, more than n is spent
abbrev pub NeedsPast : ByFuel → ℕ → Type 0
NeedsPast run n = (m : ℕ) × SpendsPast n m (run m)

-- The fault is that the fuel was spent exactly where more than the given fuel is needed; cells that don't fit, which whole worlds
-- don't have, are told apart.
pub record SpentWhereMoreIsNeeded (run : ByFuel) : Type 0 where
  pub spent : (n : ℕ) → NeedsPast run n → IsSpent (run n)
  pub needed : (n : ℕ) → IsSpent (run n) → NeedsPast run n ⊎ ((m : ℕ) × (run m ≡ unfit))

abbrev pub LeavesAtMost : ℕ → Outcome → Type 0
LeavesAtMost b (done v s n) = n ≤ b
LeavesAtMost b (faulted f s n) = n ≤ b
LeavesAtMost b unfit = Unit {0}

-- No more is left than was given.
abbrev pub FuelFalls : ByFuel → Type 0
FuelFalls run = (n : ℕ) → LeavesAtMost n (run n)

-- The meaning of an expression is given by those of its parts,
abbrev pub Unrolls : Type 0
Unrolls = (w : PlainSetting) (c : PlainCore) (scope : Place) (s : WorldState) (n : ℕ) → eval_of w c scope s n ≡ unrolled w (eval_of w) c scope s n

-- and every depth that is no less than the fuel gives it.
abbrev pub AnyDepth : Type 0
AnyDepth = (w : PlainSetting) (depth : ℕ) (c : PlainCore) (scope : Place) (s : WorldState) (n : ℕ) → n ≤ depth
    → evaluates w depth c scope s n ≡ eval_of w c scope s n
