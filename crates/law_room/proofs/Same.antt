-- Actions that answer the same, and what holds of what an action gives.
use Rattle.std.proofs.Common.{◌≡◌, Bool, true, false, List, [], ◌∷◌, ◌++◌, length, Result, Ok, Err, refl, ◌∙◌, ap, if◌then◌else◌}
use Rattle.base_data.specs.Act.{after, each, gather}
use Rattle.base_data.specs.Elements.{Each}
use Rattle.base_data.specs.declared.fault.Fault.{Fault}
use Rattle.base_data.specs.declared.name.FrameNo.{FrameNo}
use Rattle.expand_standing.specs.InScope.{leaving, within}
use Rattle.expand_standing.specs.State.{State, Does, fresh_frame}

-- where it gives a value, this holds of the value
abbrev pub Gave : {A : Type 0} → (A → Type 0) → Result (A × State) Fault → Type 0
Gave P (Ok x) = P x.0
Gave P (Err e) = Unit {0}

pub gave-after : {A B : Type 0} (P : A → Type 0) (Q : B → Type 0) (r : Result (A × State) Fault) (k : A → Does B) → Gave P r → ((a : A) (u : State) → P a → Gave Q (k a u)) → Gave Q (after r k)
gave-after P Q (Ok x) k h next = next x.0 x.1 h
gave-after P Q (Err e) k h next = tt

pub gave-any : {A B : Type 0} (Q : B → Type 0) (r : Result (A × State) Fault) (k : A → Does B) → ((a : A) (u : State) → Gave Q (k a u)) → Gave Q (after r k)
gave-any Q (Ok x) k next = next x.0 x.1
gave-any Q (Err e) k next = tt

pub gave-if : {A : Type 0} (P : A → Type 0) (b : Bool) (r q : Result (A × State) Fault) → Gave P r → Gave P q → Gave P (if b then r else q)
gave-if P true r q h k = h
gave-if P false r q h k = k

pub gave-gather : {X D : Type 0} (P : D → Type 0) (step : D → X → Does D) → ((d : D) (x : X) (s : State) → P d → Gave P (step d x s))
    → (d : D) (xs : List X) (s : State) → P d → Gave P (gather step d xs s)
unfolding gather
gave-gather P step one d [] s h = h
gave-gather P step one d (x ∷ xs) s h = gave-after P P (step d x s) (λ e. gather step e xs) (one d x s h) (λ e t k. gave-gather P step one e xs t k)

-- The same, and then the same.

pub same-after : {A B : Type 0} (r : Result (A × State) Fault) (k m : A → Does B) → ((a : A) (u : State) → k a u ≡ m a u) → after r k ≡ after r m
same-after (Ok x) k m h = h x.0 x.1
same-after (Err e) k m h = refl

pub both-after : {A B : Type 0} (r q : Result (A × State) Fault) (k m : A → Does B) → r ≡ q → ((a : A) (u : State) → k a u ≡ m a u) → after r k ≡ after q m
both-after r q k m e h = ap (λ x. after x k) e ∙ same-after q k m h

-- the second knows what holds of the first one's value
pub where-after : {A B : Type 0} (P : A → Type 0) (r : Result (A × State) Fault) (k m : A → Does B) → Gave P r → ((a : A) (u : State) → P a → k a u ≡ m a u) → after r k ≡ after r m
where-after P (Ok x) k m g h = h x.0 x.1 g
where-after P (Err e) k m g h = refl

-- with a new frame, in which what comes into scope is out of scope afterwards
pub same-framed : {A : Type 0} (k m : FrameNo → Does A) (s : State) → ((frame : FrameNo) (u : State) → k frame u ≡ m frame u) → within (λ u. after (fresh_frame u) k) s ≡ within (λ u. after (fresh_frame u) m) s
same-framed k m s h = ap (λ r. after r (leaving (length s.scope))) (same-after (fresh_frame s) k m h)

-- of a list, where this holds of each
pub where-each : {X A : Type 0} (P : X → Type 0) (step other : X → Does A) → ((x : X) (s : State) → P x → step x s ≡ other x s)
    → (done : List A) (xs : List X) (s : State) → Each P xs → each step done xs s ≡ each other done xs s
unfolding each
where-each P step other one done [] s h = refl
where-each P step other one done (x ∷ xs) s h =
    both-after (step x s) (other x s) (λ a. each step (done ++ a ∷ []) xs) (λ a. each other (done ++ a ∷ []) xs) (one x s h.0) (λ a u. where-each P step other one (done ++ a ∷ []) xs u h.1)

pub same-each : {X A : Type 0} (step other : X → Does A) → ((x : X) (s : State) → step x s ≡ other x s) → (done : List A) (xs : List X) (s : State) → each step done xs s ≡ each other done xs s
unfolding each
same-each step other one done [] s = refl
same-each step other one done (x ∷ xs) s =
    both-after (step x s) (other x s) (λ a. each step (done ++ a ∷ []) xs) (λ a. each other (done ++ a ∷ []) xs) (one x s) (λ a u. same-each step other one (done ++ a ∷ []) xs u)

pub same-gather : {X D : Type 0} (step other : D → X → Does D) → ((d : D) (x : X) (s : State) → step d x s ≡ other d x s) → (d : D) (xs : List X) (s : State) → gather step d xs s ≡ gather other d xs s
unfolding gather
same-gather step other one d [] s = refl
same-gather step other one d (x ∷ xs) s = both-after (step d x s) (other d x s) (λ e. gather step e xs) (λ e. gather other e xs) (one d x s) (λ e u. same-gather step other one e xs u)
