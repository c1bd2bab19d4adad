-- What an action gives, and that its fault, where there is one, isn't that of cells that don't fit.
use Rattle.std.proofs.Common.{◌≡◌, Bool, true, false, List, [], ◌∷◌, Result, Ok, Err, length, refl, if◌then◌else◌}
use Rattle.base_data.specs.Act.{after, gather}
use Rattle.base_data.specs.declared.fault.Fault.{Fault}
use Rattle.expand_standing.specs.InScope.{cut, leaving, within}
use Rattle.expand_standing.specs.State.{State, Does}
use Rattle.law_expand.proofs.Acts.{Gave}
use Rattle.law_stuck.specs.Kinds.{NotStuck}

abbrev pub Sure : {A : Type 0} → (A → State → Type 0) → Result (A × State) Fault → Type 0
Sure P (Ok x) = P x.0 x.1
Sure P (Err f) = NotStuck f.kind

pub sure-after : {A B : Type 0} (P : A → State → Type 0) (Q : B → State → Type 0) (r : Result (A × State) Fault) (k : A → Does B)
    → Sure P r → ((a : A) (t : State) → P a t → Sure Q (k a t)) → Sure Q (after r k)
sure-after P Q (Ok x) k h next = next x.0 x.1 h
sure-after P Q (Err f) k h next = h

pub sure-less : {A : Type 0} (P Q : A → State → Type 0) (r : Result (A × State) Fault) → Sure P r → ((a : A) (t : State) → P a t → Q a t) → Sure Q r
sure-less P Q (Ok x) h weaker = weaker x.0 x.1 h
sure-less P Q (Err f) h weaker = h

-- with what is known where it gives something
pub sure-with : {A : Type 0} (P Q : A → State → Type 0) (r : Result (A × State) Fault) → Sure P r → Gave Q r → Sure (λ a t. P a t × Q a t) r
sure-with P Q (Ok x) h k = (h, k)
sure-with P Q (Err f) h k = h

pub sure-if : {A : Type 0} (P : A → State → Type 0) (b : Bool) (r q : Result (A × State) Fault) → (b ≡ true → Sure P r) → (b ≡ false → Sure P q) → Sure P (if b then r else q)
sure-if P true r q h k = h refl
sure-if P false r q h k = k refl

pub sure-within : {A : Type 0} (P : A → State → Type 0) (m : Does A) (s : State) → Sure (λ a t. P a (cut (length s.scope) t)) (m s) → Sure P (within m s)
sure-within P m s h = sure-after (λ a t. P a (cut (length s.scope) t)) P (m s) (leaving (length s.scope)) h (λ a t k. k)

-- over a list, each step from what is kept to what is kept next
pub sure-gather : {X D : Type 0} (step : D → X → Does D) (Holds : D → State → Type 0) → ((d : D) (x : X) (s : State) → Holds d s → Sure Holds (step d x s))
    → (d : D) (xs : List X) (s : State) → Holds d s → Sure Holds (gather step d xs s)
unfolding gather
sure-gather step Holds one d [] s h = h
sure-gather step Holds one d (x ∷ xs) s h = sure-after Holds Holds (step d x s) (λ e. gather step e xs) (one d x s h) (λ e t k. sure-gather step Holds one e xs t k)
