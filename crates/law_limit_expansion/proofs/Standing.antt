-- What is done with states keeps such a law of all trees in them.
use Rattle.std.proofs.Common.{List, Result}
use Rattle.base_data.specs.Act.{after, each}
use Rattle.base_data.specs.Elements.{Each}
use Rattle.base_data.specs.declared.fault.Fault.{Fault}
use Rattle.stx_tree.specs.Tree.{Tree}
use Rattle.core_language.specs.Core.{PlainCore}
use Rattle.expand_standing.specs.State.{State, Does}
use Rattle.law_invariant_expansion.proofs.Standing as standing
use Rattle.law_limits.specs.Holds.{CoreHolds, trees}
use Rattle.law_limits.specs.Lawful.{IsLawful}
use Rattle.law_limit_expansion.specs.States.{HoldsIn}
use Rattle.law_limit_expansion.proofs.Kept.{trees-kept}

module _ (T : Tree → Type 0) (lawful : IsLawful T) where
  abbrev pub C : PlainCore → Type 0
  C = CoreHolds T

  -- Where it gives a value and a state, the law holds of all in the state, and this holds of the value.
  abbrev pub Gave : {A : Type 0} → (A → Type 0) → Result (A × State) Fault → Type 0
  Gave = standing.Gave (trees T) (trees-kept T lawful)

  pub gave-after : {A B : Type 0} (W : A → Type 0) (V : B → Type 0) (r : Result (A × State) Fault) (k : A → Does B) → Gave W r → ((a : A) (t : State) → HoldsIn T t → W a → Gave V (k a t)) → Gave V (after r k)
  gave-after W V r k h next = standing.gave-after (trees T) (trees-kept T lawful) W V r k h next

  pub gave-each : {X Y : Type 0} (Q : X → Type 0) (W : Y → Type 0) (step : X → Does Y) → ((x : X) (s : State) → HoldsIn T s → Q x → Gave W (step x s)) → (done : List Y) (xs : List X) (s : State)
      → HoldsIn T s → Each W done → Each Q xs → Gave (λ ys. Each W ys) (each step done xs s)
  gave-each Q W step one done xs s h d k = standing.gave-each (trees T) (trees-kept T lawful) Q W step one done xs s h d k
