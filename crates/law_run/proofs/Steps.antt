-- From states to later ones whose frames come by binds.
use Rattle.std.proofs.Common.{◌≡◌, List, [], ◌∷◌, ◌++◌, length, Result, Ok, Err, sym, subst}
use Rattle.base_data.specs.Act.{after, each, gather}
use Rattle.base_data.specs.declared.fault.Fault.{Fault}
use Rattle.base_data.specs.declared.library.LibName.{LibName}
use Rattle.stx_frames.specs.Scope.{Scope}
use Rattle.expand_standing.specs.InScope.{leaving, within, restoring, apart}
use Rattle.expand_standing.specs.State.{State, Does}
use Rattle.law_expand.proofs.Acts.{Gave, gave-after, gave-less}
use Rattle.law_run.specs.Bound.{BindsOwn, no_more, one_more}

pub binds-then : {own : LibName} {fs gs hs : Scope} → BindsOwn own fs gs → BindsOwn own gs hs → BindsOwn own fs hs
binds-then h no_more = h
binds-then h (one_more f r k o e) = one_more f r (binds-then h k) o e

pub record Steps (own : LibName) (s t : State) : Type 0 where
  pub next : t.names.library ≡ own
  pub binds : BindsOwn own s.frames t.frames

module _ (own : LibName) where
  abbrev pub Names : State → Type 0
  Names s = s.names.library ≡ own

  abbrev pub St : {A : Type 0} → State → A → State → Type 0
  St s a t = Steps own s t

  -- the frames stay as they are
  pub stays : (s t : State) → t.names.library ≡ own → t.frames ≡ s.frames → Steps own s t
  stays s t n e = record { next = n; binds = subst (λ (fs : Scope). BindsOwn own s.frames fs) (sym e) no_more }

  pub self : (s : State) → Names s → Steps own s s
  self s n = record { next = n; binds = no_more }

  pub steps-then : (s t u : State) → Steps own s t → Steps own t u → Steps own s u
  steps-then s t u h k = record { next = k.next; binds = binds-then h.binds k.binds }

  pub steps-after : {A B : Type 0} (s : State) (r : Result (A × State) Fault) (k : A → Does B) → Gave (St s) r → ((a : A) (t : State) → Names t → Gave (St t) (k a t)) → Gave (St s) (after r k)
  steps-after s r k h next = gave-after (St s) (St s) r k h (λ a t e. gave-less (St t) (St s) (k a t) (next a t e.next) (λ b u f. steps-then s t u e f))

  -- what is given is made up of the value alone
  pub steps-give : {A B : Type 0} (s : State) (r : Result (A × State) Fault) (f : A → B) → Gave (St s) r → Gave (St s) (after r (λ a t. Ok (f a, t)))
  steps-give s (Ok p) f h = h
  steps-give s (Err e) f h = tt

  pub steps-each : {X A : Type 0} (step : X → Does A) → ((x : X) (s : State) → Names s → Gave (St s) (step x s)) → (done : List A) (xs : List X) (s : State) → Names s → Gave (St s) (each step done xs s)
  unfolding each
  steps-each step one done [] s n = self s n
  steps-each step one done (x ∷ xs) s n = steps-after s (step x s) (λ a. each step (done ++ a ∷ []) xs) (one x s n) (λ a t m. steps-each step one (done ++ a ∷ []) xs t m)

  pub steps-gather : {X D : Type 0} (step : D → X → Does D) → ((d : D) (x : X) (s : State) → Names s → Gave (St s) (step d x s)) → (d : D) (xs : List X) (s : State) → Names s → Gave (St s) (gather step d xs s)
  unfolding gather
  steps-gather step one d [] s n = self s n
  steps-gather step one d (x ∷ xs) s n = steps-after s (step d x s) (λ e. gather step e xs) (one d x s n) (λ e t m. steps-gather step one e xs t m)

  pub steps-within : {A : Type 0} (m : Does A) (s : State) → Gave (St s) (m s) → Gave (St s) (within m s)
  steps-within m s h = gave-after (St s) (St s) (m s) (leaving (length s.scope)) h (λ a t k. record { next = k.next; binds = k.binds })

  pub steps-apart : {A : Type 0} (m : Does A) (s : State) → Gave (St (record s { scope = [] })) (m (record s { scope = [] })) → Gave (St s) (apart m s)
  steps-apart m s h = gave-after (St (record s { scope = [] })) (St s) (m (record s { scope = [] })) (restoring s.scope) h (λ a t k. record { next = k.next; binds = k.binds })
