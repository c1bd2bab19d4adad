-- From states to later ones, action by action.
use Rattle.std.proofs.Common.{◌≡◌, false, List, [], length, Result, arith}
use Rattle.base_data.specs.Act.{after, each}
use Rattle.base_data.specs.declared.fault.Fault.{Fault}
use Rattle.base_data.specs.declared.library.LibName.{LibName}
use Rattle.base_data.specs.declared.name.Label.{Label}
use Rattle.law_core.specs.Templates.{Depths}
use Rattle.expand_standing.specs.InScope.{cut}
use Rattle.expand_standing.specs.State.{State, Does}
use Rattle.law_expand.specs.States.{Keeps, Adds, Later, LaterBut}
use Rattle.law_expand.proofs.Acts.{Gave, gave-after, gave-less, gave-each}
use Rattle.law_expand.proofs.Later.{later-self, later-then, later-within}
use Rattle.law_expand.proofs.Naming.{as_frame, counted, counted-later}

module _ (own : LibName) where
  -- names that come are those of the library
  abbrev pub Names : State → Type 0
  Names s = s.names.library ≡ own

  abbrev pub Moved : {A : Type 0} → State → A → State → Type 0
  Moved s a t = Later own s t

  -- before what came goes out of scope
  abbrev pub Leaving : {A : Type 0} → State → A → State → Type 0
  Leaving s a t = Later own s (cut (length s.scope) t)

  pub moved-after : {A B : Type 0} (s : State) (r : Result (A × State) Fault) (k : A → Does B) → Gave (Moved s) r → ((a : A) (t : State) → Names t → Gave (Moved t) (k a t)) → Gave (Moved s) (after r k)
  moved-after s r k h next = gave-after (Moved s) (Moved s) r k h (λ a t e. gave-less (Moved t) (Moved s) (k a t) (next a t e.next) (λ b u f. later-then own s t u e f))

  pub moved-each : {X A : Type 0} (step : X → Does A) → ((x : X) (s : State) → Names s → Gave (Moved s) (step x s)) → (xs : List X) (s : State) → Names s → Gave (Moved s) (each step [] xs s)
  moved-each step one xs s n = gave-each step (λ x t a u. Moved t a u) (λ ys t bs u. Moved t bs u) Names (λ t m. later-self own t m) (λ x t m. one x t m) (λ x t u a m e. e.next) (λ x ys t u v a bs m e f. later-then own t u v e f) xs s n

  -- behind a new name
  pub moved-counted : {A : Type 0} (s : State) (r : Result (A × State) Fault) → Names s → Gave (Moved (counted s)) r → Gave (Moved s) r
  moved-counted s r n h = gave-less (Moved (counted s)) (Moved s) r h (λ a t e. later-then own s (counted s) t (counted-later own s n) e)

  -- labels that come into scope in a new frame, and then what is done there
  pub framed : {A B : Type 0} (labels : A → List Label) (depths : A → Depths) (s : State) (r : Result (A × State) Fault) (k : A → Does B) → Names s
      → Gave (λ x u. LaterBut own (as_frame s.names) (counted s) u × (Adds own false (labels x) (depths x) (counted s) u × Keeps own (counted s) u)) r → ((x : A) (u : State) → Names u → Gave (Moved u) (k x u)) → Gave (Leaving s) (after r k)
  framed {A} labels depths s r k n h next = gave-after P (Leaving s) r k h
      (λ x u e. gave-less (Moved u) (Leaving s) (k x u) (next x u e.0.next) (λ b v f. later-within own (as_frame s.names) (labels x) (depths x) s (counted s) u v (counted-later own s n) e.0 e.1.0 e.1.1 n (omega arith) f))
    where
      P : A → State → Type 0
      P x u = LaterBut own (as_frame s.names) (counted s) u × (Adds own false (labels x) (depths x) (counted s) u × Keeps own (counted s) u)
