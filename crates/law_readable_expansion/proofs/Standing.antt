-- What is done with states keeps that all in them can be read.
use Rattle.std.proofs.Common.{List, Result}
use Rattle.base_data.specs.Act.{after, each}
use Rattle.base_data.specs.Elements.{Each}
use Rattle.base_data.specs.declared.fault.Fault.{Fault}
use Rattle.core_language.specs.Core.{PlainCore}
use Rattle.expand_standing.specs.State.{State, Does}
use Rattle.law_invariant_expansion.proofs.Standing as standing
use Rattle.law_readable.specs.Readable.{ReadableCore, readable}
use Rattle.law_readable_expansion.specs.States.{ReadableIn}
use Rattle.law_readable_expansion.proofs.Kept.{readable-kept}

abbrev pub F : State → Type 0
F = ReadableIn

abbrev pub C : PlainCore → Type 0
C = ReadableCore

-- Where it gives a value and a state, all in the state can be read, and this holds of the value.
abbrev pub Gave : {A : Type 0} → (A → Type 0) → Result (A × State) Fault → Type 0
Gave = standing.Gave readable readable-kept

pub gave-after : {A B : Type 0} (W : A → Type 0) (V : B → Type 0) (r : Result (A × State) Fault) (k : A → Does B) → Gave W r → ((a : A) (t : State) → F t → W a → Gave V (k a t)) → Gave V (after r k)
gave-after W V r k h next = standing.gave-after readable readable-kept W V r k h next

pub gave-each : {X Y : Type 0} (Q : X → Type 0) (W : Y → Type 0) (step : X → Does Y) → ((x : X) (s : State) → F s → Q x → Gave W (step x s)) → (done : List Y) (xs : List X) (s : State)
    → F s → Each W done → Each Q xs → Gave (λ ys. Each W ys) (each step done xs s)
gave-each Q W step one done xs s h d k = standing.gave-each readable readable-kept Q W step one done xs s h d k
