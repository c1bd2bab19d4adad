-- What an action gives, where it isn't at fault.
use Rattle.std.proofs.Common.{◌≡◌, Bool, true, false, List, [], ◌∷◌, ◌++◌, length, Result, Ok, Err, refl, sym, ◌∙◌, ap, subst, append-nil, append_assoc, if◌then◌else◌}
use Rattle.base_data.specs.Act.{after, give, each, gather}
use Rattle.base_data.specs.declared.fault.Fault.{Fault}
use Rattle.expand_standing.specs.InScope.{cut, leaving, within}
use Rattle.expand_standing.specs.State.{State, Does}

-- where it gives a value and a state, this holds of them
abbrev pub Gave : {A : Type 0} → (A → State → Type 0) → Result (A × State) Fault → Type 0
Gave P (Ok x) = P x.0 x.1
Gave P (Err e) = Unit {0}

pub gave-after : {A B : Type 0} (P : A → State → Type 0) (Q : B → State → Type 0) (r : Result (A × State) Fault) (k : A → Does B)
    → Gave P r → ((a : A) (t : State) → P a t → Gave Q (k a t)) → Gave Q (after r k)
gave-after P Q (Ok x) k h next = next x.0 x.1 h
gave-after P Q (Err e) k h next = tt

-- what holds by one account holds by a weaker one
pub gave-less : {A : Type 0} (P Q : A → State → Type 0) (r : Result (A × State) Fault) → Gave P r → ((a : A) (t : State) → P a t → Q a t) → Gave Q r
gave-less P Q (Ok x) h weaker = weaker x.0 x.1 h
gave-less P Q (Err e) h weaker = tt

-- what holds by two accounts
pub gave-both : {A : Type 0} (P Q : A → State → Type 0) (r : Result (A × State) Fault) → Gave P r → Gave Q r → Gave (λ a t. P a t × Q a t) r
gave-both P Q (Ok x) h k = (h, k)
gave-both P Q (Err e) h k = tt

pub gave-any : {A : Type 0} (P : A → State → Type 0) (r : Result (A × State) Fault) → ((a : A) (t : State) → P a t) → Gave P r
gave-any P (Ok x) h = h x.0 x.1
gave-any P (Err e) h = tt

pub gave-if : {A : Type 0} (P : A → State → Type 0) (b : Bool) (r q : Result (A × State) Fault)
    → (b ≡ true → Gave P r) → (b ≡ false → Gave P q) → Gave P (if b then r else q)
gave-if P true r q h k = h refl
gave-if P false r q h k = k refl

-- what comes into scope is out of scope afterwards
pub gave-within : {A : Type 0} (P : A → State → Type 0) (m : Does A) (s : State) → Gave (λ a t. P a (cut (length s.scope) t)) (m s) → Gave P (within m s)
gave-within P m s h = gave-after (λ a t. P a (cut (length s.scope) t)) P (m s) (leaving (length s.scope)) h (λ a t k. k)

-- what was given is told by the account
pub told : {A : Type 0} (P : A → State → Type 0) (r : Result (A × State) Fault) (a : A) (t : State) → Gave P r → r ≡ Ok (a, t) → P a t
told {A} P r a t h e = let k : Gave P (Ok (a, t)) = subst (λ (x : Result (A × State) Fault). Gave P x) e h in k

-- The actions of a list, one behind another, from the first.

each-behind : {X A : Type 0} (step : X → Does A) (xs : List X) (done : List A) (s : State) → each step done xs s ≡ after (each step [] xs s) (λ ys. give (done ++ ys))
unfolding each
each-behind step [] done s = ap (λ ys. Ok (ys, s)) (sym (append-nil done))
each-behind {X} {A} step (x ∷ xs) done s = by (λ ds t. each-behind step xs ds t) (step x s)
  where
    regroup : (a : A) (r : Result (List A × State) Fault) → after r (λ ys. give ((done ++ a ∷ []) ++ ys)) ≡ after (after r (λ ys. give ((a ∷ []) ++ ys))) (λ ys. give (done ++ ys))
    regroup a (Ok p) = ap (λ zs. Ok (zs, p.1)) (append_assoc done (a ∷ []) p.0)
    regroup a (Err e) = refl

    by : ((ds : List A) (t : State) → each step ds xs t ≡ after (each step [] xs t) (λ ys. give (ds ++ ys)))
        → (r : Result (A × State) Fault) → after r (λ a. each step (done ++ a ∷ []) xs) ≡ after (after r (λ a. each step ([] ++ a ∷ []) xs)) (λ ys. give (done ++ ys))
    by others (Err e) = refl
    by others (Ok p) =
        others (done ++ p.0 ∷ []) p.1 ∙ regroup p.0 (each step [] xs p.1)
        ∙ ap (λ (r : Result (List A × State) Fault). after r (λ ys. give (done ++ ys))) (sym (others (p.0 ∷ []) p.1))

pub each-cons : {X A : Type 0} (step : X → Does A) (x : X) (xs : List X) (s : State)
    → each step [] (x ∷ xs) s ≡ after (step x s) (λ a t. after (each step [] xs t) (λ ys. give (a ∷ ys)))
unfolding each
each-cons {X} {A} step x xs s = by (step x s)
  where
    by : (r : Result (A × State) Fault) → after r (λ a. each step ([] ++ a ∷ []) xs) ≡ after r (λ a t. after (each step [] xs t) (λ ys. give (a ∷ ys)))
    by (Err e) = refl
    by (Ok p) = each-behind step xs (p.0 ∷ []) p.1

pub each-nil : {X A : Type 0} (step : X → Does A) (s : State) → each step [] [] s ≡ Ok ([], s)
unfolding each
each-nil step s = refl

-- where what one gives and what the others give after it make up what all give, so do all
pub gave-each : {X A : Type 0} (step : X → Does A) (One : X → State → A → State → Type 0) (All : List X → State → List A → State → Type 0) (Start : State → Type 0)
    → ((s : State) → Start s → All [] s [] s)
    → ((x : X) (s : State) → Start s → Gave (One x s) (step x s))
    → ((x : X) (s t : State) (a : A) → Start s → One x s a t → Start t)
    → ((x : X) (xs : List X) (s t u : State) (a : A) (ys : List A) → Start s → One x s a t → All xs t ys u → All (x ∷ xs) s (a ∷ ys) u)
    → (xs : List X) (s : State) → Start s → Gave (All xs s) (each step [] xs s)
gave-each {X} {A} step One All Start nil one kept joint [] s h = subst (λ (r : Result (List A × State) Fault). Gave (All [] s) r) (sym (each-nil step s)) (nil s h)
gave-each {X} {A} step One All Start nil one kept joint (x ∷ xs) s h =
    subst (λ (r : Result (List A × State) Fault). Gave (All (x ∷ xs) s) r) (sym (each-cons step x xs s))
    (gave-after (One x s) (All (x ∷ xs) s) (step x s) (λ a t. after (each step [] xs t) (λ ys. give (a ∷ ys))) (one x s h)
    (λ a t is. gave-after (All xs t) (All (x ∷ xs) s) (each step [] xs t) (λ ys. give (a ∷ ys))
    (gave-each step One All Start nil one kept joint xs t (kept x s t a h is))
    (λ ys u so. joint x xs s t u a ys h is so)))

-- over a list, each step from what is kept to what is kept next
pub gave-gather : {X D : Type 0} (step : D → X → Does D) (Holds : D → State → Type 0) → ((d : D) (x : X) (s : State) → Holds d s → Gave Holds (step d x s))
    → (d : D) (xs : List X) (s : State) → Holds d s → Gave Holds (gather step d xs s)
unfolding gather
gave-gather step Holds one d [] s h = h
gave-gather step Holds one d (x ∷ xs) s h = gave-after Holds Holds (step d x s) (λ e. gather step e xs) (one d x s h) (λ e t k. gave-gather step Holds one e xs t k)
