-- Actions: from a state to a value and the state after it, or a fault.
use Rattle.std.specs.Prelude.{◌≡◌, Result, Ok, Err, List, [], ◌∷◌, ◌++◌}
use Rattle.base_data.specs.Gives.{Stops}
use Rattle.base_data.specs.declared.fault.Fault.{Fault}
use Rattle.base_data.specs.declared.fault.Stop.{Stop}

abbrev pub Act : Type 0 → Type 0 → Type 0
Act S A = S → Result (A × S) Fault

abbrev pub give : {S A : Type 0} → A → Act S A
give a s = Ok (a, s)

abbrev pub fail : {S A : Type 0} → Fault → Act S A
fail f s = Err f

abbrev pub after : {S A B : Type 0} → Result (A × S) Fault → (A → Act S B) → Result (B × S) Fault
after (Ok x) k = k x.0 x.1
after (Err f) k = Err f

-- one action and then another, which knows the first one's value
abbrev pub then_act : {S A B : Type 0} → Act S A → (A → Act S B) → Act S B
then_act m k s = after (m s) k

-- what a call answers and leaves is what the action gives, unless memory ran out
abbrev pub GivesAfter : {S X A : Type 0} → (X → A) → Result X Stop → S → Result (A × S) Fault → Type 0
GivesAfter view (Ok x) new given = given ≡ Ok (view x, new)
GivesAfter view (Err e) new given = Stops e given

-- the actions of a list in order, behind what is done
unfoldable pub each : {S X A : Type 0} → (X → Act S A) → List A → List X → Act S (List A)
each step done [] s = Ok (done, s)
each step done (x ∷ xs) s = after (step x s) (λ a. each step (done ++ a ∷ []) xs)

-- over a list, from what is kept to what is kept next
unfoldable pub gather : {S X D : Type 0} → (D → X → Act S D) → D → List X → Act S D
gather step d [] s = Ok (d, s)
gather step d (x ∷ xs) s = after (step d x s) (λ e. gather step e xs)
