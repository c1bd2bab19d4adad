-- More fuel gives the same outcome, with that much more left, unless the fuel was spent; and then more is needed.
use Rattle.std.proofs.Common.{◌≡◌, ◌≤◌, ◌<◌, ◌-◌, ◌+◌, ℕ, zero, suc, List, [], ◌∷◌, ◌++◌, Option, Some, None, Bool, true, false, Result, Ok, Err, length, drop, length-append, refl, ap, sym, subst, ◌∙◌, inl, inr, if◌then◌else◌, arith}
use Rattle.std.specs.Prelude.{◌⊎◌}
use Rattle.base_data.specs.Datum.{PlainDatum}
use Rattle.base_data.specs.declared.fault.Bare.{Bare}
use Rattle.base_data.specs.declared.name.CodeNo.{CodeNo}
use Rattle.base_data.specs.declared.name.Label.{Label}
use Rattle.base_data.specs.declared.op.Op.{Op}
use Rattle.base_region.specs.declared.region.Place.{Place}
use Rattle.core_language.specs.Core.{PlainCore, quoted, variable, primitive, one_armed, two_armed, assignment, sequence, procedure, letrec, call, instance, matching}
use Rattle.core_language.specs.Core.{PlainCores, none, more, PlainInits, no_init, init, PlainClauses, no_clause, clause, fended, PlainCode}
use Rattle.core_language.specs.Pattern.{PlainPattern}
use Rattle.core_language.specs.Template.{PlainTemplate}
use Rattle.core_language.specs.declared.formals.Formals.{Formals}
use Rattle.core_language.specs.declared.record.Line.{Line}
use Rattle.core_language.specs.declared.record.Line.TheVariants as line
use Rattle.eval_value.specs.FromDatum.{stored}
use Rattle.eval_value.specs.ToSyntax.{fuel_spent}
use Rattle.eval_value.specs.declared.value.Value.{Value}
use Rattle.eval_value.specs.declared.value.Value.TheVariants as value
use Rattle.eval_value.specs.declared.cell.Cell.{Cell}
use Rattle.eval_pattern.specs.declared.columns.PatternBinds.{PatternBinds}
use Rattle.eval_prims.specs.Answers.{PrimAnswer}
use Rattle.eval_prims.specs.Chains.{list_elements}
use Rattle.eval_prims.specs.Cost.{cost}
use Rattle.eval_prims.specs.Delta.{delta}
use Rattle.eval_template.specs.Binds.{unbound}
use Rattle.eval_code.specs.Codes.{code_at}
use Rattle.eval_code.specs.Instances.{Binds, match_of, instance_of, cost_of, instance_made, instance_paid, instance_with, instanced, gathered}
use Rattle.eval_code.specs.Lines.{lines_from}
use Rattle.eval_code.specs.Procedures.{first_case, has_text, text_number, text_body, truth_of}
use Rattle.eval_code.specs.Quoted.{datum_cost}
use Rattle.eval_code.specs.Setting.{PlainSetting}
use Rattle.eval_code.specs.Spread.{CallBy, apply_args, parted, before_last, with_elements, with_front, on_parts, spread_once, spread_on, spread_to, spread}
use Rattle.eval_code.specs.State.{WorldState, Outcome, done, faulted, unfit, Go, then_do, charged, made, store, next_place}
use Rattle.eval_code.specs.Variables.{found, assigned, all_assigned}
use Rattle.eval_code.specs.Meaning.{PlainLetrec, Evaluator, answer_made, primitive_called, variable_read, variable_value, quoted_value, by_case, by_code, procedure_called, text_value_called, by_text, op_called, value_called, first_called, applied, operands, in_sequence, one_arm, two_arms, in_turn, at_once, by_letrec, fender_passed, output_given, fender_asked, on_match, tried, expressed, evaluates, eval_of}
use Rattle.eval_code.specs.Trying.{clause_before}
use Rattle.eval_code.proofs.Fuel.{Within, Same, Alike, AlikeCalls, Same-of, Same-then, Same-spread_to, Same-text_value, Same-first, Same-operands, Same-in_sequence, Same-one_arm, Same-two_arms, Same-in_turn, Same-at_once, Same-fender_passed, Same-on_match, Same-tried, Same-expressed, Alike-evaluates, Alike-eval_of, eval_of_is, Within-more}
use Rattle.eval_code.proofs.Paid.{within_or_past, charged_paid, charged_short}
use Rattle.eval_code.proofs.Spreading.{args_shorter}
use Rattle.law_eval.specs.MoreFuel.{more_left, IsSpent, MoreIsLeft, LeavesAtLeast, LeftIsNotNeeded, SpendsPast, SpentWhereMoreIsNeeded, LeavesAtMost, FuelFalls}
use Rattle.law_eval.specs.Runs.{ByFuel, Everywhere}
use Rattle.law_eval.proofs.Faults.{IsOther, not_spent, Others, others-delta, others-instance, others-measure}

-- the fuel ran out, or less than k is left
abbrev pub Short : ℕ → Outcome → Type 0
Short k (done v s m) = m < k
Short k (faulted f s m) = (f ≡ fuel_spent) ⊎ (m < k)
Short k unfit = Unit {0}

-- less than k is left, or it can't be told
abbrev pub Below : ℕ → Outcome → Type 0
Below k (done v s m) = m < k
Below k (faulted f s m) = m < k
Below k unfit = Unit {0}

below_within : (k m : ℕ) (o : Outcome) → Within m o → m < k → Below k o
below_within k m (done v s n) w l = omega (arith, w, l)
below_within k m (faulted f s n) w l = omega (arith, w, l)
below_within k m unfit w l = tt

short_below : (k : ℕ) (o : Outcome) → Below k o → Short k o
short_below k (done v s n) l = l
short_below k (faulted f s n) l = inr l
short_below k unfit l = tt

-- no value leaves more fuel than it comes with
abbrev pub Falls : Go → Type 0
Falls h = (v : Value) (s : WorldState) (m : ℕ) → Within m (h v s m)

below_then : (k : ℕ) (p : Outcome) (h : Go) → Below k p → Falls h → Below k (then_do p h)
below_then k (done v s m) h l falls = below_within k m (h v s m) (falls v s m) l
below_then k (faulted f s m) h l falls = l
below_then k unfit h l falls = tt

short_then : (k : ℕ) (p : Outcome) (h : Go) → Short k p → Falls h → Short k (then_do p h)
short_then k (done v s m) h l falls = short_below k (h v s m) (below_within k m (h v s m) (falls v s m) l)
short_then k (faulted f s m) h l falls = l
short_then k unfit h l falls = tt

-- The fuel ran out. With more the same or less than that is left, and where there is enough, less.
pub record RanOut (f : Bare) (run : ByFuel) : Type 0 where
  pub is : f ≡ fuel_spent
  pub short : (k : ℕ) → Short k (run k)
  pub enough : ℕ
  pub below : Below enough (run enough)

-- an outcome, and what comes with so much more fuel
abbrev pub Carries : Outcome → ByFuel → Type 0
Carries (done v s n) run = (k : ℕ) → run k ≡ done v s (n + k)
Carries (faulted f s n) run = RanOut f run ⊎ (IsOther f.kind × ((k : ℕ) → run k ≡ faulted f s (n + k)))
Carries unfit run = (k : ℕ) → run k ≡ unfit

-- and no more than b is left
pub record Carried (b : ℕ) (o : Outcome) (run : ByFuel) : Type 0 where
  pub carries : Carries o run
  pub within : Within b o

abbrev pub AlikeMore : ℕ → Evaluator → Type 0
AlikeMore b E = (c : PlainCore) (scope : Place) (s : WorldState) (n : ℕ) → n ≤ b → Carried b (E c scope s n) (λ k. E c scope s (n + k))

carried-cong : (b : ℕ) (o : Outcome) (p q : ByFuel) → ((k : ℕ) → p k ≡ q k) → Carried b o p → Carried b o q
carried-cong b o p q e c = subst (λ r. Carried b o r) (λ i k. e k i) c

-- an outcome with k more fuel that leaves k
pub carried_back : (k : ℕ) (o : Outcome) (run : ByFuel) → Carries o run → LeavesAtLeast k (run k) → run k ≡ more_left k o
carried_back k (done v s n) run h l = h k
carried_back k (faulted f s n) run h l = elim h [
  | inl r ↦ absurd (not_both (run k) (r.short k) l)
  | inr r ↦ r.1 k
]
  where
    not_both : (q : Outcome) → Short k q → LeavesAtLeast k q → ⊥
    not_both (done v t m) s l = omega (arith, s, l)
    not_both (faulted g t m) s l = elim s [
      | inl e ↦ l.0 e
      | inr e ↦ omega (arith, e, l.1)
    ]
    not_both unfit s l = l
carried_back k unfit run h l = h k

-- an outcome that isn't fuel spent
pub carried_is : (k : ℕ) (o : Outcome) (run : ByFuel) → Carries o run → (IsSpent o → ⊥) → run k ≡ more_left k o
carried_is k (done v s n) run h u = h k
carried_is k (faulted f s n) run h u = elim h [
  | inl r ↦ absurd (u r.is)
  | inr r ↦ r.1 k
]
carried_is k unfit run h u = h k

-- with k more, more than n is spent
abbrev PastOrUnfit : ByFuel → ℕ → Type 0
PastOrUnfit run n = ((k : ℕ) × SpendsPast n (n + k) (run k)) ⊎ ((k : ℕ) × (run k ≡ unfit))

past_below : (n : ℕ) (run : ByFuel) (k : ℕ) (o : Outcome) → run k ≡ o → Below k o → PastOrUnfit run n
past_below n run k (done v s m) e l = inl (k, subst (λ o. SpendsPast n (n + k) o) (sym e) (omega (arith, l)))
past_below n run k (faulted f s m) e l = inl (k, subst (λ o. SpendsPast n (n + k) o) (sym e) (omega (arith, l)))
past_below n run k unfit e l = inr (k, e)

-- where the fuel was spent, more is needed
pub carried_past : (n : ℕ) (o : Outcome) (run : ByFuel) → Carries o run → IsSpent o → PastOrUnfit run n
carried_past n (done v s m) run h u = absurd u
carried_past n (faulted f s m) run h u = elim h [
  | inl r ↦ past_below n run r.enough (run r.enough) refl r.below
  | inr r ↦ absurd (not_spent f r.0 u)
]
carried_past n unfit run h u = absurd u

-- and only there
pub carried_spent : (n k : ℕ) (o : Outcome) (run : ByFuel) → Carries o run → SpendsPast n (n + k) (run k) → IsSpent o
carried_spent n k (done v s m) run h l = let past = subst (λ o. SpendsPast n (n + k) o) (h k) l in absurd (omega (arith, past))
carried_spent n k (faulted f s m) run h l = elim h [
  | inl r ↦ r.is
  | inr r ↦ let past = subst (λ o. SpendsPast n (n + k) o) (r.1 k) l in absurd (omega (arith, past))
]
carried_spent n k unfit run h l = absurd (subst (λ o. SpendsPast n (n + k) o) (h k) l)

abbrev or_nothing : Option (List Value × Value) → List Value × Value
or_nothing None = ([], value.Unspecified)
or_nothing (Some q) = q

pub front_length : (xs : List Value) (x : Value) → suc (length xs) ≡ length (before_last x (parted xs)).0 + 1
front_length [] x = refl
front_length (y ∷ ys) x = omega (arith, front_length ys y)

-- all but the last are one less
pub front_shorter : (xs : List Value) (p : List Value × Value) → parted xs ≡ Some p → length xs ≡ length p.0 + 1
front_shorter [] p e = cc
front_shorter (x ∷ xs) p e = front_length xs x ∙ ap (λ (q : List Value × Value). length q.0 + 1) (ap or_nothing e)

module _ (b : ℕ) where
  abbrev GoesMore : Go → Type 0
  GoesMore g = (v : Value) (s : WorldState) (n : ℕ) → n ≤ b → Carried b (g v s n) (λ k. g v s (n + k))

  abbrev CallsMore : CallBy → Type 0
  CallsMore g = (vs : List Value) (n : ℕ) → n ≤ b → Carried b (g vs n) (λ k. g vs (n + k))

  here-done : (v : Value) (s : WorldState) (n : ℕ) → n ≤ b → Carried b (done v s n) (λ k. done v s (n + k))
  here-done v s n le = record { carries = λ k. refl; within = le }

  here-fault : (f : Bare) → IsOther f.kind → (s : WorldState) (n : ℕ) → n ≤ b → Carried b (faulted f s n) (λ k. faulted f s (n + k))
  here-fault f other s n le = record { carries = inr (other, λ k. refl); within = le }

  here-unfit : Carried b unfit (λ k. unfit)
  here-unfit = record { carries = λ k. refl; within = tt }

  then-at : (o : Outcome) (p : ByFuel) (g : Go) → Carries o p → Within b o → GoesMore g → Falls g → Carried b (then_do o g) (λ k. then_do (p k) g)
  then-at (done v s n) p g c w go falls = carried-cong b (g v s n) (λ k. g v s (n + k)) (λ k. then_do (p k) g) (λ k. ap (λ q. then_do q g) (sym (c k))) (go v s n w)
  then-at (faulted f s n) p g c w go falls = elim c [
    | inl r ↦ record {
      carries = inl (record { is = r.is; short = λ k. short_then k (p k) g (r.short k) falls; enough = r.enough; below = below_then r.enough (p r.enough) g r.below falls });
      within = w;
    }
    | inr r ↦ record { carries = inr (r.0, λ k. ap (λ q. then_do q g) (r.1 k)); within = w }
  ]
  then-at unfit p g c w go falls = record { carries = λ k. ap (λ q. then_do q g) (c k); within = tt }

  carried-then : (o : Outcome) (p : ByFuel) (g : Go) → Carried b o p → GoesMore g → Falls g → Carried b (then_do o g) (λ k. then_do (p k) g)
  carried-then o p g c go falls = then-at o p g c.carries c.within go falls

  carried-if : (t : Bool) (o p : Outcome) (q r : ByFuel) → Carried b o q → Carried b p r → Carried b (if t then o else p) (λ k. if t then q k else r k)
  carried-if true o p q r c d = c
  carried-if false o p q r c d = d

  -- a cost that isn't paid without more fuel
  short-charged : (cost : ℕ) (s : WorldState) (n k : ℕ) (h : ℕ → Outcome) → n < cost → ((m : ℕ) → Within m (h m)) → Short k (charged cost s (n + k) h)
  short-charged cost s n k h w falls = elim (within_or_past cost (n + k)) [
    | inl v ↦ subst (λ p. Short k p) (sym (charged_paid s h cost (n + k) v))
        (short_below k (h (n + k - cost)) (below_within k (n + k - cost) (h (n + k - cost)) (falls (n + k - cost)) (omega (arith, w, v))))
    | inr v ↦ subst (λ p. Short k p) (sym (charged_short s h cost (n + k) v)) (inl refl)
  ]

  -- with just what is wanting it is paid
  below-charged : (cost : ℕ) (s : WorldState) (n : ℕ) (h : ℕ → Outcome) → n < cost → ((m : ℕ) → Within m (h m)) → Below (cost - n) (charged cost s (n + (cost - n)) h)
  below-charged cost s n h w falls =
      subst (λ p. Below (cost - n) p) (sym (charged_paid s h cost (n + (cost - n)) (omega (arith, w))))
      (below_within (cost - n) (n + (cost - n) - cost) (h (n + (cost - n) - cost)) (falls (n + (cost - n) - cost)) (omega (arith, w)))

  -- a cost, and what follows where it is paid
  carried-charged : (cost : ℕ) (s : WorldState) (n : ℕ) (g : ℕ → Outcome) (h : ℕ → ℕ → Outcome) → n ≤ b → (cost ≤ n → Carried b (g (n - cost)) (λ k. h k (n - cost + k)))
      → ((k m : ℕ) → Within m (h k m)) → Carried b (charged cost s n g) (λ k. charged cost s (n + k) (h k))
  carried-charged cost s n g h le go falls = elim (within_or_past cost n) [
    | inl w ↦
        let far : (k : ℕ) → h k (n - cost + k) ≡ charged cost s (n + k) (h k) =
        λ k. sym (charged_paid s (h k) cost (n + k) (omega (arith, w)) ∙ ap (h k) (omega (arith, w))) in
        subst (λ o. Carried b o (λ k. charged cost s (n + k) (h k))) (sym (charged_paid s g cost n w))
        (carried-cong b (g (n - cost)) (λ k. h k (n - cost + k)) (λ k. charged cost s (n + k) (h k)) far (go w))
    | inr w ↦
        subst (λ o. Carried b o (λ k. charged cost s (n + k) (h k))) (sym (charged_short s g cost n w))
        (record {
          carries = inl (record { is = refl; short = λ k. short-charged cost s n k (h k) w (falls k); enough = cost - n; below = below-charged cost s n (h (cost - n)) w (falls (cost - n)) });
          within = le;
        })
  ]

  -- What evaluates nothing.

  carried-answer : (s : WorldState) (n : ℕ) (a : PrimAnswer) → Others a → n ≤ b → Carried b (answer_made s n a) (λ k. answer_made s (n + k) a)
  carried-answer s n (Ok m) other le = record { carries = λ k. refl; within = le }
  carried-answer s n (Err f) other le = here-fault f other s n le

  answer-falls : (s : WorldState) (m : ℕ) (a : PrimAnswer) → Within m (answer_made s m a)
  answer-falls s m (Ok x) = omega arith
  answer-falls s m (Err f) = omega arith

  carried-primitive : (w : PlainSetting) (op : ℕ) (args : List Value) (s : WorldState) (n : ℕ) → n ≤ b → Carried b (primitive_called w op args s n) (λ k. primitive_called w op args s (n + k))
  unfolding primitive_called
  carried-primitive w op args s n le =
      carried-charged (cost op args s.cells) s n (λ m. answer_made s m (delta op args s.cells w.frames)) (λ k m. answer_made s m (delta op args s.cells w.frames)) le
      (λ h. carried-answer s (n - cost op args s.cells) (delta op args s.cells w.frames) (others-delta op args s.cells w.frames) (omega (arith, le)))
      (λ k m. answer-falls s m (delta op args s.cells w.frames))

  carried-read : (w : PlainSetting) (l : Label) (s : WorldState) (n : ℕ) (o : Option (Option Value)) → n ≤ b → Carried b (variable_read w l s n o) (λ k. variable_read w l s (n + k) o)
  carried-read w l s n None le = here-unfit
  carried-read w l s n (Some None) le = here-fault _ tt s n le
  carried-read w l s n (Some (Some v)) le = here-done v s n le

  carried-variable : (w : PlainSetting) (l : Label) (scope : Place) (s : WorldState) (n : ℕ) → n ≤ b → Carried b (variable_value w l scope s n) (λ k. variable_value w l scope s (n + k))
  unfolding variable_value
  carried-variable w l scope s n le = carried-read w l s n (found (suc (length s.cells)) w.globals s.cells l (Some scope)) le

  carried-quoted : (d : PlainDatum) (s : WorldState) (n : ℕ) → n ≤ b → Carried b (quoted_value d s n) (λ k. quoted_value d s (n + k))
  unfolding quoted_value
  carried-quoted d s n le =
      carried-charged (datum_cost d) s n (made s.names (stored d s.cells)) (λ k. made s.names (stored d s.cells)) le (λ h. record { carries = λ k. refl; within = omega (arith, le) }) (λ k m. omega arith)

  carried-made : (s : WorldState) (r : Result (Value × List Cell) Bare) → Others r → (n : ℕ) → n ≤ b → Carried b (instance_made s r n) (λ k. instance_made s r (n + k))
  carried-made s (Ok p) other n le = record { carries = λ k. refl; within = le }
  carried-made s (Err f) other n le = here-fault f other s n le

  made-falls : (s : WorldState) (r : Result (Value × List Cell) Bare) (m : ℕ) → Within m (instance_made s r m)
  made-falls s (Ok p) m = omega arith
  made-falls s (Err f) m = omega arith

  carried-paid : (s : WorldState) (n : ℕ) (r : Result (Value × List Cell) Bare) (c : Result ℕ Bare) → Others r → Others c → n ≤ b → Carried b (instance_paid s n r c) (λ k. instance_paid s (n + k) r c)
  carried-paid s n r (Ok cost) other also le =
      carried-charged cost s n (instance_made s r) (λ k. instance_made s r) le (λ h. carried-made s r other (n - cost) (omega (arith, le))) (λ k m. made-falls s r m)
  carried-paid s n r (Err f) other also le = here-fault f also s n le

  carried-instance_with : (t : PlainTemplate) (s : WorldState) (n : ℕ) (o : Option Binds) → n ≤ b → Carried b (instance_with t s n o) (λ k. instance_with t s (n + k) o)
  carried-instance_with t s n None le = here-unfit
  carried-instance_with t s n (Some bs) le = carried-paid s n (instance_of bs t s.cells) (cost_of bs t) (others-instance unbound bs t [] s.cells) (others-measure unbound bs t []) le

  carried-instanced : (t : PlainTemplate) (scope : Place) (s : WorldState) (n : ℕ) → n ≤ b → Carried b (instanced t scope s n) (λ k. instanced t scope s (n + k))
  unfolding instanced
  carried-instanced t scope s n le = carried-instance_with t s n (gathered s.cells scope t []) le

  -- `apply`: each time the fuel and the number of values together fall, so the turns are enough on both sides.

  module _ (s : WorldState) (g : CallBy) (calls : CallsMore g) (falls : (m : ℕ) → AlikeCalls m g g) where
    -- so many turns are enough, with each amount of fuel
    abbrev Enough : ℕ → (ℕ → ℕ) → Type 0
    Enough t u = (vs : List Value) (n : ℕ) → n ≤ b → n + length vs < t → ((k : ℕ) → n + k + length vs < u k) → Carried b (spread_to t s g vs n) (λ k. spread_to (u k) s g vs (n + k))

    carried-elements : (t : ℕ) (u : ℕ → ℕ) → Enough t u → (front : List Value) (n : ℕ) (o : Option (List Value)) → n ≤ b → n + length front < t → ((k : ℕ) → n + k + length front < u k)
        → Carried b (with_elements front s (spread_to t s g) n o) (λ k. with_elements front s (spread_to (u k) s g) (n + k) o)
    carried-elements t u enough front n None le l m = here-fault _ tt s n le
    carried-elements t u enough front n (Some xs) le l m =
        carried-charged (length xs) s n (spread_to t s g (front ++ xs)) (λ k. spread_to (u k) s g (front ++ xs)) le
        (λ w. enough (front ++ xs) (n - length xs) (omega (arith, le)) (omega (arith, w, l, length-append front xs)) (λ k. omega (arith, w, m k, length-append front xs)))
        (λ k j. (Same-spread_to j s (u k) g g (falls j) (front ++ xs) j (omega arith)).within)

    carried-front : (t : ℕ) (u : ℕ → ℕ) → Enough t u → (front : List Value) (last : Value) (n : ℕ) → n ≤ b → n + length front < t → ((k : ℕ) → n + k + length front < u k)
        → Carried b (with_front front last s (spread_to t s g) n) (λ k. with_front front last s (spread_to (u k) s g) (n + k))
    carried-front t u enough [] last n le l m = here-fault _ tt s n le
    carried-front t u enough (x ∷ xs) last n le l m = carried-elements t u enough (x ∷ xs) n (list_elements s.cells last) le l m

    carried-parts : (t : ℕ) (u : ℕ → ℕ) → Enough t u → (args : List Value) (n : ℕ) (o : Option (List Value × Value)) → parted args ≡ o → n ≤ b → n + length args < suc t
        → ((k : ℕ) → n + k + length args < suc (u k)) → Carried b (on_parts s (spread_to t s g) n o) (λ k. on_parts s (spread_to (u k) s g) (n + k) o)
    carried-parts t u enough args n None e le l m = here-fault _ tt s n le
    carried-parts t u enough args n (Some p) e le l m =
        let shorter = front_shorter args p e in
        carried-front t u enough p.0 p.1 n le (omega (arith, l, shorter)) (λ k. omega (arith, m k, shorter))

    carried-once : (t : ℕ) (u : ℕ → ℕ) → Enough t u → (args : List Value) (n : ℕ) → n ≤ b → n + length args < suc t → ((k : ℕ) → n + k + length args < suc (u k))
        → Carried b (spread_once args s (spread_to t s g) n) (λ k. spread_once args s (spread_to (u k) s g) (n + k))
    unfolding spread_once
    carried-once t u enough args n le l m = carried-parts t u enough args n (parted args) refl le l m

    carried-on : (t : ℕ) (u : ℕ → ℕ) → Enough t u → (vs : List Value) (n : ℕ) (o : Option (List Value)) → apply_args vs ≡ o → n ≤ b → n + length vs < suc t → ((k : ℕ) → n + k + length vs < suc (u k))
        → Carried b (spread_on s (spread_to t s g) (g vs) n o) (λ k. spread_on s (spread_to (u k) s g) (g vs) (n + k) o)
    carried-on t u enough vs n None e le l m = calls vs n le
    carried-on t u enough vs n (Some args) e le l m =
        let shorter = args_shorter vs args e in carried-once t u enough args n le (omega (arith, l, shorter)) (λ k. omega (arith, m k, shorter))

    enough : (t : ℕ) (u : ℕ → ℕ) → Enough t u
    enough zero u vs n le l m = absurd (omega (arith, l))
    enough (suc t) u vs n le l m =
        let one_more : (k : ℕ) → suc (u k - 1) ≡ u k = λ k. omega (arith, m k) in
        carried-cong b (spread_to (suc t) s g vs n) (λ k. spread_to (suc (u k - 1)) s g vs (n + k)) (λ k. spread_to (u k) s g vs (n + k)) (λ k. ap (λ j. spread_to j s g vs (n + k)) (one_more k))
        (carried-on t (λ k. u k - 1) (enough t (λ k. u k - 1)) vs n (apply_args vs) refl le l (λ k. omega (arith, m k)))

    carried-spread : (vs : List Value) (n : ℕ) → n ≤ b → Carried b (spread s g vs n) (λ k. spread s g vs (n + k))
    unfolding spread
    carried-spread vs n le = enough (suc (n + length vs)) (λ k. suc (n + k + length vs)) vs n le (omega arith) (λ k. omega arith)

  module _ (w : PlainSetting) (E : Evaluator) (alike : AlikeMore b E) (self : (m : ℕ) → Alike m E E) where
    carried-case : (parent : Place) (args : List Value) (s : WorldState) (n : ℕ) (x : Option (Formals × PlainCore)) → n ≤ b → Carried b (by_case w E parent args s n x) (λ k. by_case w E parent args s (n + k) x)
    carried-case parent args s n None le = here-fault _ tt s n le
    carried-case parent args s n (Some x) le = alike _ _ _ n le

    carried-code : (parent : Place) (args : List Value) (s : WorldState) (n : ℕ) (x : Option PlainCode) → n ≤ b → Carried b (by_code w E parent args s n x) (λ k. by_code w E parent args s (n + k) x)
    carried-code parent args s n None le = here-unfit
    carried-code parent args s n (Some code) le = carried-case parent args s n (first_case code.cases (length args)) le

    carried-procedure : (number : CodeNo) (parent : Place) (args : List Value) (s : WorldState) (n : ℕ) → n ≤ b → Carried b (procedure_called w E number parent args s n) (λ k. procedure_called w E number parent args s (n + k))
    unfolding procedure_called
    carried-procedure number parent args s n le = carried-code parent args s n (code_at w.codes number) le

    carried-text_value : (args : List Value) → GoesMore (text_value_called w E args)
    carried-text_value args (value.Closure number parent) s n le = carried-procedure number parent args s n le
    carried-text_value args value.Unspecified s n le = here-unfit
    carried-text_value args (value.Atom x) s n le = here-unfit
    carried-text_value args (value.Symbol x) s n le = here-unfit
    carried-text_value args (value.Pair p) s n le = here-unfit
    carried-text_value args (value.Vector p) s n le = here-unfit
    carried-text_value args (value.Str p) s n le = here-unfit
    carried-text_value args (value.Prim op) s n le = here-unfit
    carried-text_value args (value.Syn t) s n le = here-unfit
    carried-text_value args (value.Transformer p) s n le = here-unfit

    carried-text : (args : List Value) (s : WorldState) (n : ℕ) (x : Option PlainCore) → n ≤ b → Carried b (by_text w E args s n x) (λ k. by_text w E args s (n + k) x)
    carried-text args s n None le = here-unfit
    carried-text args s n (Some body) le = carried-then _ _ _ (alike body _ _ n le) (carried-text_value args) (λ v t m. (Same-text_value m w E E (self m) args v t m (omega arith)).within)

    carried-op : (op : Op) (args : List Value) (s : WorldState) (n : ℕ) → n ≤ b → Carried b (op_called w E op args s n) (λ k. op_called w E op args s (n + k))
    unfolding op_called
    carried-op op args s n le =
        carried-if (has_text op.0) _ _ _ _ (carried-text args s n (text_body (code_at w.codes (text_number op.0))) le) (carried-primitive w op.0 args s n le)

    carried-value : (f : Value) (args : List Value) (s : WorldState) (n : ℕ) → n ≤ b → Carried b (value_called w E f args s n) (λ k. value_called w E f args s (n + k))
    carried-value (value.Closure number parent) args s n le = carried-procedure number parent args s n le
    carried-value (value.Prim op) args s n le = carried-op op args s n le
    carried-value value.Unspecified args s n le = here-fault _ tt s n le
    carried-value (value.Atom x) args s n le = here-fault _ tt s n le
    carried-value (value.Symbol x) args s n le = here-fault _ tt s n le
    carried-value (value.Pair p) args s n le = here-fault _ tt s n le
    carried-value (value.Vector p) args s n le = here-fault _ tt s n le
    carried-value (value.Str p) args s n le = here-fault _ tt s n le
    carried-value (value.Syn t) args s n le = here-fault _ tt s n le
    carried-value (value.Transformer p) args s n le = here-fault _ tt s n le

    carried-first : (s : WorldState) → CallsMore (first_called w E s)
    unfolding first_called
    carried-first s [] n le = here-unfit
    carried-first s (f ∷ args) n le = carried-value f args s n le

    pub carried-applied : (vs : List Value) (s : WorldState) (n : ℕ) → n ≤ b → Carried b (applied w E vs s n) (λ k. applied w E vs s (n + k))
    unfolding applied
    carried-applied vs s n le = carried-spread s (first_called w E s) (carried-first s) (λ m. Same-first m w E E (self m) s) vs n le

    carried-operands : (cs : PlainCores) (scope : Place) (vs : List Value) (s : WorldState) (n : ℕ) → n ≤ b → Carried b (operands w E cs scope vs s n) (λ k. operands w E cs scope vs s (n + k))
    carried-operands none scope vs s n le = carried-applied vs s n le
    carried-operands (more c cs) scope vs s n le = carried-then _ _ _ (alike c scope s n le) (λ v s n le. carried-operands cs scope (vs ++ v ∷ []) s n le)
        (λ v t m. (Same-operands m w E E (self m) cs scope (vs ++ v ∷ []) t m (omega arith)).within)

    carried-sequence : (cs : PlainCores) (scope : Place) (s : WorldState) (n : ℕ) → n ≤ b → Carried b (in_sequence w E cs scope s n) (λ k. in_sequence w E cs scope s (n + k))
    carried-sequence none scope s n le = here-unfit
    carried-sequence (more c none) scope s n le = alike c scope s n le
    carried-sequence (more c (more d cs)) scope s n le = carried-then _ _ _ (alike c scope s n le) (λ v s n le. carried-sequence (more d cs) scope s n le)
        (λ v t m. (Same-in_sequence m w E E (self m) (more d cs) scope t m (omega arith)).within)

    carried-one_arm : (c : PlainCore) (scope : Place) → GoesMore (one_arm w E c scope)
    carried-one_arm c scope v s n le = carried-if (truth_of v) _ _ _ _ (alike c scope s n le) (here-done value.Unspecified s n le)

    carried-two_arms : (c d : PlainCore) (scope : Place) → GoesMore (two_arms w E c d scope)
    carried-two_arms c d scope v s n le = carried-if (truth_of v) _ _ _ _ (alike c scope s n le) (alike d scope s n le)

    carried-in_turn : (is : PlainInits) (body : PlainCore) (scope : Place) (s : WorldState) (n : ℕ) → n ≤ b → Carried b (in_turn w E is body scope s n) (λ k. in_turn w E is body scope s (n + k))
    carried-in_turn no_init body scope s n le = alike body scope s n le
    carried-in_turn (init l c is) body scope s n le =
        carried-then _ _ _ (alike c scope s n le) (λ v s n le. carried-in_turn is body scope (store (assigned s.cells scope l v) s.names) n le)
        (λ v t m. (Same-in_turn m w E E (self m) is body scope (store (assigned t.cells scope l v) t.names) m (omega arith)).within)

    carried-at_once : (is : PlainInits) (l : PlainLetrec) (vs : List Value) (s : WorldState) (n : ℕ) → n ≤ b → Carried b (at_once w E is l vs s n) (λ k. at_once w E is l vs s (n + k))
    carried-at_once no_init l vs s n le = alike l.body l.scope (store (all_assigned s.cells l.scope l.variables vs) s.names) n le
    carried-at_once (init x c is) l vs s n le =
        carried-then _ _ _ (alike c l.scope s n le) (λ v s n le. carried-at_once is l (vs ++ v ∷ []) s n le)
        (λ v t m. (Same-at_once m w E E (self m) is l (vs ++ v ∷ []) t m (omega arith)).within)

    carried-letrec : (in_order : Bool) (l : PlainLetrec) (s : WorldState) (n : ℕ) → n ≤ b → Carried b (by_letrec w E in_order l s n) (λ k. by_letrec w E in_order l s (n + k))
    carried-letrec true l s n le = carried-in_turn l.variables l.body l.scope s n le
    carried-letrec false l s n le = carried-at_once l.variables l [] s n le

    abbrev NextsMore : (Place → WorldState → ℕ → Outcome) → Type 0
    NextsMore g = (scope : Place) (s : WorldState) (n : ℕ) → n ≤ b → Carried b (g scope s n) (λ k. g scope s (n + k))

    carried-passed : (g : Place → WorldState → ℕ → Outcome) → NextsMore g → (output : PlainCore) (scope inner : Place) → GoesMore (fender_passed w E (record { output = output; others = g scope; scope = scope }) inner)
    carried-passed g m output scope inner v s n le = carried-if (truth_of v) _ _ _ _ (alike output inner s n le) (m scope s n le)

    carried-match : (g : Place → WorldState → ℕ → Outcome) → NextsMore g → (i : PatternBinds → WorldState → ℕ → Outcome) → ((f : PatternBinds) (s : WorldState) (n : ℕ) → n ≤ b → Carried b (i f s n) (λ k. i f s (n + k)))
        → ((f : PatternBinds) (s : WorldState) (m : ℕ) → Within m (i f s m)) → (scope : Place) (s : WorldState) (n : ℕ) (o : Option PatternBinds) → n ≤ b → Carried b (on_match w E (g scope) i s n o) (λ k. on_match w E (g scope) i s (n + k) o)
    carried-match g m i l falls scope s n None le = m scope s n le
    carried-match g m i l falls scope s n (Some f) le = carried-charged f.taken s n (i f s) (λ k. i f s) le (λ h. l f s (n - f.taken) (omega (arith, le))) (λ k. falls f s)

    output-alike : (m : ℕ) (output : PlainCore) (scope : Place) (f : PatternBinds) (s : WorldState) (n : ℕ) → n ≤ m → Same m (output_given w E output scope f s n) (output_given w E output scope f s n)
    output-alike m output scope f s n le = self m output _ _ n le

    asked-alike : (m : ℕ) (cs : PlainClauses) (v : Value) (fender output : PlainCore) (scope : Place) (f : PatternBinds) (s : WorldState) (n : ℕ) → n ≤ m
        → Same m (fender_asked w E fender (clause_before w E output cs v scope) f s n) (fender_asked w E fender (clause_before w E output cs v scope) f s n)
    asked-alike m cs v fender output scope f s n le =
        Same-then m _ _ _ _ (self m fender _ _ n le) (Same-fender_passed m w E E (self m) (tried w E cs v scope) (tried w E cs v scope) (Same-tried m w E E (self m) cs v scope) output scope (next_place s))

    -- what comes of a clause that matches or doesn't
    abbrev on_output : PlainPattern → PlainCore → PlainClauses → Value → Place → WorldState → ℕ → Outcome
    on_output p output cs v scope s m = on_match w E (tried w E cs v scope) (output_given w E output scope) s m (match_of w.frames s.cells p v)

    abbrev on_fender : PlainPattern → PlainCore → PlainCore → PlainClauses → Value → Place → WorldState → ℕ → Outcome
    on_fender p fender output cs v scope s m = on_match w E (tried w E cs v scope) (fender_asked w E fender (clause_before w E output cs v scope)) s m (match_of w.frames s.cells p v)

    output-falls : (p : PlainPattern) (output : PlainCore) (cs : PlainClauses) (v : Value) (scope : Place) (s : WorldState) (m : ℕ) → Within m (on_output p output cs v scope s m)
    output-falls p output cs v scope s m =
        (Same-on_match m w E E (self m) (tried w E cs v scope) (tried w E cs v scope) (Same-tried m w E E (self m) cs v scope) (output_given w E output scope) (output_given w E output scope)
        (output-alike m output scope) s m (match_of w.frames s.cells p v) (omega arith)).within

    fender-falls : (p : PlainPattern) (fender output : PlainCore) (cs : PlainClauses) (v : Value) (scope : Place) (s : WorldState) (m : ℕ) → Within m (on_fender p fender output cs v scope s m)
    fender-falls p fender output cs v scope s m =
        (Same-on_match m w E E (self m) (tried w E cs v scope) (tried w E cs v scope) (Same-tried m w E E (self m) cs v scope) (fender_asked w E fender (clause_before w E output cs v scope))
        (fender_asked w E fender (clause_before w E output cs v scope)) (asked-alike m cs v fender output scope) s m (match_of w.frames s.cells p v) (omega arith)).within

    carried-asked : (cs : PlainClauses) (v : Value) → NextsMore (tried w E cs v) → (fender output : PlainCore) (scope : Place) (f : PatternBinds) (s : WorldState) (n : ℕ) → n ≤ b
        → Carried b (fender_asked w E fender (clause_before w E output cs v scope) f s n) (λ k. fender_asked w E fender (clause_before w E output cs v scope) f s (n + k))
    carried-asked cs v nexts fender output scope f s n le =
        carried-then _ _ _ (alike fender _ _ n le) (carried-passed (tried w E cs v) nexts output scope (next_place s))
        (λ x t m. (Same-fender_passed m w E E (self m) (tried w E cs v scope) (tried w E cs v scope) (Same-tried m w E E (self m) cs v scope) output scope (next_place s) x t m (omega arith)).within)

    carried-tried : (cs : PlainClauses) (v : Value) → NextsMore (tried w E cs v)
    unfolding tried
    carried-tried no_clause v scope s n le = here-fault _ tt s n le
    carried-tried (clause p output cs) v scope s n le =
        carried-charged 1 s n (on_output p output cs v scope s) (λ k. on_output p output cs v scope s) le
        (λ h. carried-match (tried w E cs v) (carried-tried cs v) (output_given w E output scope) (λ f s n le. alike output _ _ n le) (λ f s m. (output-alike m output scope f s m (omega arith)).within)
        scope s (n - 1) (match_of w.frames s.cells p v) (omega (arith, le)))
        (λ k. output-falls p output cs v scope s)
    carried-tried (fended p fender output cs) v scope s n le =
        carried-charged 1 s n (on_fender p fender output cs v scope s) (λ k. on_fender p fender output cs v scope s) le
        (λ h. carried-match (tried w E cs v) (carried-tried cs v) (fender_asked w E fender (clause_before w E output cs v scope)) (carried-asked cs v (carried-tried cs v) fender output scope)
        (λ f s m. (asked-alike m cs v fender output scope f s m (omega arith)).within) scope s (n - 1) (match_of w.frames s.cells p v) (omega (arith, le)))
        (λ k. fender-falls p fender output cs v scope s)

    carried-expressed : (c : PlainCore) (scope : Place) (s : WorldState) (n : ℕ) → n ≤ b → Carried b (expressed w E c scope s n) (λ k. expressed w E c scope s (n + k))
    carried-expressed (quoted d) scope s n le = carried-quoted d s n le
    carried-expressed (variable l) scope s n le = carried-variable w l scope s n le
    carried-expressed (primitive op) scope s n le = here-done (value.Prim op) s n le
    carried-expressed (one_armed c d) scope s n le = carried-then _ _ _ (alike c scope s n le) (carried-one_arm d scope) (λ v t m. (Same-one_arm m w E E (self m) d scope v t m (omega arith)).within)
    carried-expressed (two_armed c d e) scope s n le = carried-then _ _ _ (alike c scope s n le) (carried-two_arms d e scope) (λ v t m. (Same-two_arms m w E E (self m) d e scope v t m (omega arith)).within)
    carried-expressed (assignment l c) scope s n le = here-fault _ tt s n le
    carried-expressed (sequence cs) scope s n le = carried-sequence cs scope s n le
    carried-expressed (procedure number cs plain) scope s n le = here-done (value.Closure number scope) s n le
    carried-expressed (letrec in_order is c) scope s n le = carried-letrec in_order _ _ n le
    carried-expressed (call c cs) scope s n le = carried-then _ _ _ (alike c scope s n le) (λ f s n le. carried-operands cs scope (f ∷ []) s n le)
        (λ f t m. (Same-operands m w E E (self m) cs scope (f ∷ []) t m (omega arith)).within)
    carried-expressed (instance t sp) scope s n le = carried-instanced t scope s n le
    carried-expressed (matching c cs sp) scope s n le = carried-then _ _ _ (alike c scope s n le) (λ v s n le. carried-tried cs v scope s n le)
        (λ v t m. (Same-tried m w E E (self m) cs v scope t m (omega arith)).within)

-- the meaning leaves no more fuel than there was
self_alike : (w : PlainSetting) (m : ℕ) → Alike m (eval_of w) (eval_of w)
self_alike w m c scope s n le = Same-of m (eval_of w c scope s n) (Alike-eval_of w m c scope s n le).within

module _ (w : PlainSetting) where
  unrolled-falls : (c : PlainCore) (scope : Place) (s : WorldState) (n : ℕ) → Within n (expressed w (eval_of w) c scope s n)
  unrolled-falls c scope s n = (Same-expressed n w (eval_of w) (eval_of w) (self_alike w n) c scope s n (omega arith)).within

  short_at_once : (c : PlainCore) (scope : Place) (s : WorldState) (k : ℕ) → Short k (eval_of w c scope s k)
  short_at_once c scope s zero = subst (λ o. Short zero o) (sym (eval_of_is w c scope s zero)) (inl refl)
  short_at_once c scope s (suc j) =
      subst (λ o. Short (suc j) o) (sym (eval_of_is w c scope s (suc j)))
      (short_below (suc j) (expressed w (eval_of w) c scope s j) (below_within (suc j) j (expressed w (eval_of w) c scope s j) (unrolled-falls c scope s j) (omega arith)))

  below_at_once : (c : PlainCore) (scope : Place) (s : WorldState) → Below 1 (eval_of w c scope s 1)
  below_at_once c scope s =
      subst (λ o. Below 1 o) (sym (eval_of_is w c scope s 1)) (below_within 1 zero (expressed w (eval_of w) c scope s zero) (unrolled-falls c scope s zero) (omega arith))

  from_nothing : (k : ℕ) → k ≡ zero + k
  from_nothing k = omega arith

  -- no fuel isn't enough for anything
  spent_at_once : (b : ℕ) (c : PlainCore) (scope : Place) (s : WorldState) → Carried b (eval_of w c scope s zero) (λ k. eval_of w c scope s (zero + k))
  spent_at_once b c scope s =
      carried-cong b (eval_of w c scope s zero) (eval_of w c scope s) (λ k. eval_of w c scope s (zero + k)) (λ k. ap (eval_of w c scope s) (from_nothing k))
      (subst (λ o. Carried b o (eval_of w c scope s)) (sym (eval_of_is w c scope s zero)) (record {
        carries = inl (record { is = refl; short = short_at_once c scope s; enough = 1; below = below_at_once c scope s });
        within = omega arith;
      }))

  next_unit : (n k : ℕ) → suc (n + k) ≡ suc n + k
  next_unit n k = omega arith

  pub alike_more : (b : ℕ) → AlikeMore b (eval_of w)
  alike_more b c scope s zero le = spent_at_once b c scope s
  alike_more zero c scope s (suc n) le = absurd (omega (arith, le))
  alike_more (suc b) c scope s (suc n) le =
      let inner = carried-expressed b w (eval_of w) (alike_more b) (self_alike w) c scope s n (omega (arith, le)) in
      subst (λ o. Carried (suc b) o (λ k. eval_of w c scope s (suc n + k))) (sym (eval_of_is w c scope s (suc n)))
      (carried-cong (suc b) (expressed w (eval_of w) c scope s n) (λ k. expressed w (eval_of w) c scope s (n + k)) (λ k. eval_of w c scope s (suc n + k))
      (λ k. sym (eval_of_is w c scope s (suc (n + k))) ∙ ap (eval_of w c scope s) (next_unit n k))
      (record { carries = inner.carries; within = Within-more b (expressed w (eval_of w) c scope s n) inner.within }))

  alike_calls : (vs : List Value) (s : WorldState) (n : ℕ) → Carried n (applied w (eval_of w) vs s n) (λ k. applied w (eval_of w) vs s (n + k))
  alike_calls vs s n = carried-applied n w (eval_of w) (alike_more n) (self_alike w) vs s n (omega arith)

  alike_lines : (ls : List Line) (b : ℕ) (scope : Place) (s : WorldState) (n : ℕ) → n ≤ b → Carried b (lines_from (eval_of w) ls scope s n) (λ k. lines_from (eval_of w) ls scope s (n + k))
  alike_lines [] b scope s n le = here-done b value.Unspecified s n le
  alike_lines (line.Define l c ∷ ls) b scope s n le =
      carried-then b _ _ _ (alike_more b c scope s n le) (λ v s n le. alike_lines ls b scope (store (assigned s.cells scope l v) s.names) n le)
      (λ v t m. (alike_lines ls m scope (store (assigned t.cells scope l v) t.names) m (omega arith)).within)
  alike_lines (line.Expr c ∷ ls) b scope s n le =
      carried-then b _ _ _ (alike_more b c scope s n le) (λ v s n le. alike_lines ls b scope s n le) (λ v t m. (alike_lines ls m scope t m (omega arith)).within)

-- what comes with each amount of fuel is carried to more
abbrev pub AllCarried : ByFuel → Type 0
AllCarried run = (n : ℕ) → Carried n (run n) (λ k. run (n + k))

pub all_carried : Everywhere AllCarried
all_carried = record {
  expressions = λ w c scope s n. alike_more w n c scope s n (omega arith);
  calls = λ w vs s n. alike_calls w vs s n;
  libraries = λ w ls scope s n. alike_lines w ls n scope s n (omega arith);
}

-- what follows from that for one of them follows for all
pub everywhere : (P : ByFuel → Type 0) → ((run : ByFuel) → AllCarried run → P run) → Everywhere P
everywhere P h = record {
  expressions = λ w c scope s. h (eval_of w c scope s) (all_carried.expressions w c scope s);
  calls = λ w vs s. h (applied w (eval_of w) vs s) (all_carried.calls w vs s);
  libraries = λ w ls scope s. h (lines_from (eval_of w) ls scope s) (all_carried.libraries w ls scope s);
}

pub more_is_left : (run : ByFuel) → AllCarried run → MoreIsLeft run
more_is_left run h n k u = carried_is k (run n) (λ k. run (n + k)) (h n).carries u

pub left_is_not_needed : (run : ByFuel) → AllCarried run → LeftIsNotNeeded run
left_is_not_needed run h n k l = carried_back k (run n) (λ k. run (n + k)) (h n).carries l

-- with less fuel than that, no more is spent
not_past : (n m : ℕ) (o : Outcome) → m ≤ n → SpendsPast n m o → ⊥
not_past n m (done v s l) le h = omega (arith, le, h)
not_past n m (faulted f s l) le h = omega (arith, le, h)
not_past n m unfit le h = h

pub spent_where_needed : (run : ByFuel) → AllCarried run → SpentWhereMoreIsNeeded run
spent_where_needed run h = record {
  spent = λ n p. elim (within_or_past p.0 n) [
    | inl le ↦ absurd (not_past n p.0 (run p.0) le p.1)
    | inr lt ↦
        let rest : p.0 ≡ n + (p.0 - n) = omega (arith, lt) in
        carried_spent n (p.0 - n) (run n) (λ k. run (n + k)) (h n).carries (subst (λ m. SpendsPast n m (run m)) rest p.1)
  ];
  needed = λ n u. elim (carried_past n (run n) (λ k. run (n + k)) (h n).carries u) [
    | inl p ↦ inl (n + p.0, p.1)
    | inr p ↦ inr (n + p.0, p.1)
  ];
}

at_most : (b : ℕ) (o : Outcome) → Within b o → LeavesAtMost b o
at_most b (done v s n) h = h
at_most b (faulted f s n) h = h
at_most b unfit h = h

pub fuel_falls : (run : ByFuel) → AllCarried run → FuelFalls run
fuel_falls run h n = at_most n (run n) (h n).within

-- every depth that is no less than the fuel gives the meaning
pub any_depth : (w : PlainSetting) (depth : ℕ) (c : PlainCore) (scope : Place) (s : WorldState) (n : ℕ) → n ≤ depth → evaluates w depth c scope s n ≡ eval_of w c scope s n
unfolding eval_of
any_depth w depth c scope s n le = (Alike-evaluates w depth n n le (omega arith) c scope s n (omega arith)).equal
