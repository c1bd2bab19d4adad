-- What the parts of a run come to, where the whole ends; and that where the parts end so, the whole does.
use Rattle.std.proofs.Common.{◌≡◌, ◌≤◌, ◌<◌, ◌+◌, ◌-◌, ℕ, Ok, Err, refl, ap, sym, subst, ◌∙◌, inl, inr, arith}
use Rattle.std.specs.Prelude.{◌⊎◌}
use Rattle.base_data.specs.declared.fault.Bare.{Bare}
use Rattle.eval_value.specs.ToSyntax.{fuel_spent}
use Rattle.eval_value.specs.declared.value.Value.{Value}
use Rattle.eval_code.specs.State.{WorldState, Outcome, done, faulted, unfit, Go, then_do}
use Rattle.eval_code.proofs.Paid.{within_or_past}
use Rattle.law_eval.specs.MoreFuel.{more_left, IsSpent, SpendsPast, LeavesAtLeast, LeavesAtMost}
use Rattle.law_eval.specs.Runs.{ByFuel}
use Rattle.law_eval.proofs.Carried.{AllCarried, more_is_left, left_is_not_needed, spent_where_needed, fuel_falls}
use Rattle.law_given.specs.Calls.{CallEnd, ended, Ends, Gives}
use Rattle.law_given.proofs.Enough.{enough-least, enough-by}
use Rattle.law_given.proofs.Giving.{ends-then, ends-stopped}
use Rattle.law_given.proofs.Unique.{ends-one-end, ends-one-state}

-- one holds where the other does
abbrev pub Iff : Type 0 → Type 0 → Type 0
Iff A B = (A → B) × (B → A)

pub iff-then : {A B C : Type 0} → Iff A B → Iff B C → Iff A C
iff-then p q = (λ a. q.0 (p.0 a), λ c. p.1 (q.1 c))

-- a fault that isn't want of fuel
abbrev pub Real : CallEnd → Type 0
Real (Ok v) = Unit {0}
Real (Err f) = f ≡ fuel_spent → ⊥

past-least : (n m : ℕ) (o : Outcome) → SpendsPast n m o → n < m
past-least n m (done v s left) h = omega (arith, h)
past-least n m (faulted f s left) h = omega (arith, h)
past-least n m unfit h = absurd h

-- no run wants fuel whatever it has
module _ (run : ByFuel) (carried : AllCarried run) (t : WorldState) (cost : ℕ) (spent : (left : ℕ) → run (left + cost) ≡ faulted fuel_spent t left) where
  spent-at : (m : ℕ) → cost ≤ m → run m ≡ faulted fuel_spent t (m - cost)
  spent-at m le = let whole : m ≡ (m - cost) + cost = omega (arith, le) in ap run whole ∙ spent (m - cost)

  never : ⊥
  never = elim ((spent_where_needed run carried).needed cost (subst IsSpent (sym (spent-at cost (omega arith))) refl)) [
    | inl p ↦
        let lt : cost < p.0 = past-least cost p.0 (run p.0) p.1 in
        let past : SpendsPast cost p.0 (faulted fuel_spent t (p.0 - cost)) = subst (SpendsPast cost p.0) (spent-at p.0 (omega (arith, lt))) p.1 in
        omega (arith, past, lt)
    | inr p ↦ by p.0 p.1 (within_or_past cost p.0)
  ]
    where
      by : (m : ℕ) → run m ≡ unfit → (cost ≤ m) ⊎ (m < cost) → ⊥
      by m e (inl le) = let wrong : unfit ≡ faulted fuel_spent t (m - cost) = sym e ∙ spent-at m le in cc
      by m e (inr lt) =
          let whole : m + (cost - m) ≡ cost = omega (arith, lt) in
          let more : run (m + (cost - m)) ≡ more_left (cost - m) (run m) = more_is_left run carried m (cost - m) (λ h. subst IsSpent e h) in
          let wrong : unfit ≡ faulted fuel_spent t (cost - cost) = sym (ap (more_left (cost - m)) e) ∙ sym more ∙ ap run whole ∙ spent-at cost (omega arith) in
          cc

pub real-of : (run : ByFuel) → AllCarried run → (r : CallEnd) (t : WorldState) → Ends run r t → Real r
real-of run carried (Ok v) t h = tt
real-of run carried (Err f) t h = λ e. never run carried t h.0 (λ left. h.1 left ∙ ap (λ f. faulted f t left) e)

abbrev value_in : Value → CallEnd → Value
value_in d (Ok v) = v
value_in d (Err f) = d

abbrev fault_or : Bare → Outcome → Bare
fault_or d (done v s n) = d
fault_or d (faulted f s n) = f
fault_or d unfit = d

abbrev state_or : WorldState → Outcome → WorldState
state_or d (done v s n) = d
state_or d (faulted f s n) = s
state_or d unfit = d

abbrev fuel_or : ℕ → Outcome → ℕ
fuel_or d (done v s n) = d
fuel_or d (faulted f s n) = n
fuel_or d unfit = d

-- nothing was left before that much more was
none-left : (m : ℕ) (o : Outcome) (f : Bare) (t : WorldState) → more_left m o ≡ faulted f t m → o ≡ faulted f t 0
none-left m (done x u j) f t e = absurd (cc)
none-left m unfit f t e = absurd (cc)
none-left m (faulted d u j) f t e =
    let p : d ≡ f = ap (fault_or f) e in
    let q : u ≡ t = ap (state_or t) e in
    let all : j + m ≡ m = ap (fuel_or 0) e in
    let r : j ≡ 0 = omega (arith, all) in
    λ i. faulted (p i) (q i) (r i)

-- A run that ends with some fuel ends so with all that is more.
module _ (run : ByFuel) (carried : AllCarried run) where
  fault-by : (n : ℕ) (f : Bare) (t : WorldState) → (f ≡ fuel_spent → ⊥) → run n ≡ faulted f t 0 → (left : ℕ) → run (left + n) ≡ faulted f t left
  fault-by n f t real e left =
      let turned : left + n ≡ n + left = omega arith in
      let none : 0 + left ≡ left = omega arith in
      ap run turned ∙ more_is_left run carried n left (λ h. real (subst IsSpent e h)) ∙ ap (more_left left) e ∙ ap (faulted f t) none

  fault-exact : (n m : ℕ) (f : Bare) (t : WorldState) → (f ≡ fuel_spent → ⊥) → run n ≡ faulted f t m → run (n - m) ≡ faulted f t 0
  fault-exact n m f t real e =
      let least : m ≤ n = subst (LeavesAtMost n) e (fuel_falls run carried n) in
      let parts : (n - m) + m ≡ n = omega (arith, least) in
      let whole : run ((n - m) + m) ≡ faulted f t m = ap run parts ∙ e in
      let leaves : LeavesAtLeast m (run ((n - m) + m)) = subst (LeavesAtLeast m) (sym whole) (real, omega arith) in
      none-left m (run (n - m)) f t (sym (left_is_not_needed run carried (n - m) m leaves) ∙ whole)

  pub enough-ends : (r : CallEnd) (t : WorldState) (n m : ℕ) → Real r → run n ≡ ended r t m → Ends run r t
  enough-ends (Ok v) t n m real e = (n - m, enough-by run (fuel_falls run carried) (left_is_not_needed run carried) (more_is_left run carried) n m v t e)
  enough-ends (Err f) t n m real e = (n - m, fault-by (n - m) f t real (fault-exact n m f t real e))

-- A first part gives a value, with which the run goes on; or it faults, and so does the run.
pub data Split (p : ByFuel) (go : Go) : CallEnd → WorldState → Type 0 where
  went : (x : Value) (u : WorldState) {r : CallEnd} {t : WorldState} → Gives p x u → Ends (go x u) r t → Split p go r t
  stopped : {e : Bare} {t : WorldState} → Ends p (Err e) t → Split p go (Err e) t

pub split-ends : (p : ByFuel) (go : Go) (r : CallEnd) (t : WorldState) → Split p go r t → Ends (λ n. then_do (p n) go) r t
split-ends p go r t (went x u g h) = ends-then p go x u r t g h
split-ends p go r t (stopped {e = e} g) = ends-stopped p go e t g

module _ (p : ByFuel) (go : Go) (carried : AllCarried p) where
  stopped-by : (n m : ℕ) (f : Bare) (u : WorldState) → p n ≡ faulted f u m → (r : CallEnd) (t : WorldState) → Real r → faulted f u m ≡ ended r t 0 → Split p go r t
  stopped-by n m f u is (Ok v) t real e = absurd (cc)
  stopped-by n m f u is (Err d) t real e = stopped (enough-ends p carried (Err d) t n 0 real (is ∙ e))

  pub split-of : (r : CallEnd) (t : WorldState) → Real r → Ends (λ n. then_do (p n) go) r t → Split p go r t
  split-of r t real g = by (p (0 + g.0)) refl
    where
      by : (o : Outcome) → p (0 + g.0) ≡ o → Split p go r t
      by (done x u m) e = went x u (0 + g.0 - m, first) (m, onward)
        where
          first : (left : ℕ) → p (left + (0 + g.0 - m)) ≡ done x u left
          first = enough-by p (fuel_falls p carried) (left_is_not_needed p carried) (more_is_left p carried) (0 + g.0) m x u e

          least : m ≤ 0 + g.0
          least = enough-least p (fuel_falls p carried) (left_is_not_needed p carried) (more_is_left p carried) (0 + g.0) m x u e

          onward : (left : ℕ) → go x u (left + m) ≡ ended r t left
          onward left =
              let same : left + g.0 ≡ (left + m) + (0 + g.0 - m) = omega (arith, least) in
              sym (ap (λ o. then_do o go) (ap p same ∙ first (left + m))) ∙ g.1 left
      by (faulted f u m) e = stopped-by (0 + g.0) m f u e r t real (sym (ap (λ o. then_do o go) e) ∙ g.1 0)
      by unfit e = unfit-by r (sym (ap (λ o. then_do o go) e) ∙ g.1 0)
        where
          unfit-by : (r : CallEnd) → unfit ≡ ended r t 0 → Split p go r t
          unfit-by (Ok v) h = absurd (cc)
          unfit-by (Err f) h = absurd (cc)

  pub split-iff : (r : CallEnd) (t : WorldState) → Real r → Iff (Ends (λ n. then_do (p n) go) r t) (Split p go r t)
  split-iff r t real = (split-of r t real, split-ends p go r t)

  -- where the first part is known
  known-by : (x : Value) (u : WorldState) (r : CallEnd) (t : WorldState) → Gives p x u → Split p go r t → Ends (go x u) r t
  known-by x u r t h (went y v g k) =
      subst (λ a. Ends (go a u) r t) (ap (value_in y) (ends-one-end p (Ok y) (Ok x) v u g h)) (subst (λ b. Ends (go y b) r t) (ends-one-state p (Ok y) (Ok x) v u g h) k)
  known-by x u r t h (stopped {e = f} g) = let wrong : Ok x ≡ Err f = ends-one-end p (Ok x) (Err f) u t h g in absurd (cc)

  pub known-ends : (x : Value) (u : WorldState) (r : CallEnd) (t : WorldState) → Real r → Gives p x u → Ends (λ n. then_do (p n) go) r t → Ends (go x u) r t
  known-ends x u r t real h g = known-by x u r t h (split-of r t real g)
