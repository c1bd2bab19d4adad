-- What the parts gave, where the whole gave a value.
use Rattle.std.proofs.Common.{◌≡◌, ◌≤◌, ◌+◌, ◌-◌, ℕ, zero, suc, List, [], ◌∷◌, ◌++◌, Some, None, Bool, true, false, length, refl, ap, sym, subst, ◌∙◌, arith, if◌then◌else◌, nat_eq}
use Rattle.base_data.specs.declared.name.CodeNo.{CodeNo}
use Rattle.base_data.specs.declared.op.Op.{Op}
use Rattle.base_data.specs.declared.op.names.TheConstants as names
use Rattle.base_region.specs.declared.region.Place.{Place}
use Rattle.core_language.specs.Core.{PlainCore, two_armed, sequence, call, none, more, PlainCode}
use Rattle.core_language.specs.declared.formals.Formals.{Formals}
use Rattle.eval_value.specs.declared.value.Value.{Value}
use Rattle.eval_value.specs.declared.value.Value.TheVariants as value
use Rattle.eval_value.specs.declared.cell.Cell.TheVariants as cell
use Rattle.eval_code.specs.Codes.{code_at}
use Rattle.eval_code.specs.Meaning.{eval_of, expressed, unrolled, operands, in_sequence, two_arms, primitive_called, entered, by_case, by_code, procedure_called, text_value_called, by_text}
use Rattle.eval_code.specs.Meaning.{op_called}
use Rattle.eval_code.specs.Procedures.{first_case, bindings, has_text, text_number, text_body, truth_of}
use Rattle.eval_code.specs.Setting.{PlainSetting}
use Rattle.eval_code.specs.State.{WorldState, Outcome, done, faulted, unfit, Go, then_do, next_place, with_cell}
use Rattle.eval_code.proofs.Fuel.{eval_of_is}
use Rattle.law_eval.specs.MoreFuel.{MoreIsLeft, LeftIsNotNeeded, FuelFalls}
use Rattle.law_eval.specs.Runs.{ByFuel}
use Rattle.law_eval.proofs.Carried.{everywhere, more_is_left, left_is_not_needed, fuel_falls}
use Rattle.law_given.specs.Calls.{Gives, call_to, call_of, Calls}
use Rattle.law_given.specs.Codes.{prim, cons}
use Rattle.law_given.proofs.Giving.{gives-same, Evaluates, primitive-is}
use Rattle.law_given.proofs.Calling.{called-at-once, not-apply}
use Rattle.law_given.proofs.Enough.{enough-least, enough-by}
use Rattle.law_given.proofs.Primitives.{next_pair, cons-called}
use Rattle.law_given.proofs.Unique.{gives-one-value, gives-one-state}

-- what all that runs keeps to
pub record Steady (run : ByFuel) : Type 0 where
  pub falls : FuelFalls run
  pub free : LeftIsNotNeeded run
  pub more_is : MoreIsLeft run

-- A value comes of a value.
pub record Parted (p : ByFuel) (go : Go) (v : Value) (t : WorldState) : Type 0 where
  pub value : Value
  pub state : WorldState
  pub first : Gives p value state
  pub onward : Gives (go value state) v t

module _ (p : ByFuel) (go : Go) (v : Value) (t : WorldState) (steady : Steady p) (cost : ℕ) (gives : (left : ℕ) → then_do (p (left + cost)) go ≡ done v t left) where
  parted-by : (o : Outcome) → p (0 + cost) ≡ o → Parted p go v t
  parted-by (done x u m) e = record { value = x; state = u; first = (0 + cost - m, first); onward = (m, onward) }
    where
      first : (left : ℕ) → p (left + (0 + cost - m)) ≡ done x u left
      first = enough-by p steady.falls steady.free steady.more_is (0 + cost) m x u e

      least : m ≤ 0 + cost
      least = enough-least p steady.falls steady.free steady.more_is (0 + cost) m x u e

      onward : (left : ℕ) → go x u (left + m) ≡ done v t left
      onward left =
          let same : left + cost ≡ (left + m) + (0 + cost - m) = omega (arith, least) in
          sym (ap (λ o. then_do o go) (ap p same ∙ first (left + m))) ∙ gives left
  parted-by (faulted f u m) e = let wrong : faulted f u m ≡ done v t 0 = sym (ap (λ o. then_do o go) e) ∙ gives 0 in absurd (cc)
  parted-by unfit e = let wrong : unfit ≡ done v t 0 = sym (ap (λ o. then_do o go) e) ∙ gives 0 in absurd (cc)

parted : (p : ByFuel) (go : Go) (v : Value) (t : WorldState) → Steady p → Gives (λ n. then_do (p n) go) v t → Parted p go v t
parted p go v t steady g = parted-by p go v t steady g.0 g.1 (p (0 + g.0)) refl

-- where the first value is known
known-first : (p : ByFuel) (go : Go) (v x : Value) (t u : WorldState) → Steady p → Gives p x u → Gives (λ n. then_do (p n) go) v t → Gives (go x u) v t
known-first p go v x t u steady h g =
    let i = parted p go v t steady g in
    subst (λ a. Gives (go a u) v t) (gives-one-value p i.value x i.state u i.first h) (subst (λ b. Gives (go i.value b) v t) (gives-one-state p i.value x i.state u i.first h) i.onward)

module _ (w : PlainSetting) where
  steady : (c : PlainCore) (scope : Place) (s : WorldState) → Steady (eval_of w c scope s)
  steady c scope s = record {
    falls = (everywhere FuelFalls fuel_falls).expressions w c scope s;
    free = (everywhere LeftIsNotNeeded left_is_not_needed).expressions w c scope s;
    more_is = (everywhere MoreIsLeft more_is_left).expressions w c scope s;
  }

  -- a unit was spent at the start
  expressed-by : (c : PlainCore) (scope : Place) (s : WorldState) (v : Value) (t : WorldState) (cost : ℕ) → ((left : ℕ) → eval_of w c scope s (left + cost) ≡ done v t left) → Gives (expressed w (eval_of w) c scope s) v t
  expressed-by c scope s v t zero h =
      let none : 0 + zero ≡ zero = omega arith in
      let wrong : unrolled w (eval_of w) c scope s zero ≡ done v t 0 = ap (λ n. unrolled w (eval_of w) c scope s n) (sym none) ∙ sym (eval_of_is w c scope s (0 + zero)) ∙ h 0 in
      absurd (cc)
  expressed-by c scope s v t (suc k) h = (k, by)
    where
      by : (left : ℕ) → expressed w (eval_of w) c scope s (left + k) ≡ done v t left
      by left =
          let e : suc (left + k) ≡ left + suc k = omega arith in
          ap (λ n. unrolled w (eval_of w) c scope s n) e ∙ sym (eval_of_is w c scope s (left + suc k)) ∙ h left

  expressed-gives : (c : PlainCore) (scope : Place) (s : WorldState) (v : Value) (t : WorldState) → Evaluates w c scope s v t → Gives (expressed w (eval_of w) c scope s) v t
  expressed-gives c scope s v t g = expressed-by c scope s v t g.0 g.1

  -- Of an `if` whose test is known.

  pub arms-true : (b : Bool) (o p : ByFuel) (v : Value) (t : WorldState) → b ≡ true → Gives (λ n. if b then o n else p n) v t → Gives o v t
  arms-true true o p v t e g = g
  arms-true false o p v t e g = absurd (cc)

  pub arms-false : (b : Bool) (o p : ByFuel) (v : Value) (t : WorldState) → b ≡ false → Gives (λ n. if b then o n else p n) v t → Gives p v t
  arms-false false o p v t e g = g
  arms-false true o p v t e g = absurd (cc)

  pub true-back : (c d e : PlainCore) (scope : Place) (s t u : WorldState) (x v : Value) → Evaluates w c scope s x t → truth_of x ≡ true → Evaluates w (two_armed c d e) scope s v u → Evaluates w d scope t v u
  true-back c d e scope s t u x v test is g =
      arms-true (truth_of x) (eval_of w d scope t) (eval_of w e scope t) v u is
      (known-first (eval_of w c scope s) (two_arms w (eval_of w) d e scope) v x u t (steady c scope s) test (expressed-gives (two_armed c d e) scope s v u g))

  pub false-back : (c d e : PlainCore) (scope : Place) (s t u : WorldState) (x v : Value) → Evaluates w c scope s x t → truth_of x ≡ false → Evaluates w (two_armed c d e) scope s v u → Evaluates w e scope t v u
  false-back c d e scope s t u x v test is g =
      arms-false (truth_of x) (eval_of w d scope t) (eval_of w e scope t) v u is
      (known-first (eval_of w c scope s) (two_arms w (eval_of w) d e scope) v x u t (steady c scope s) test (expressed-gives (two_armed c d e) scope s v u g))

  -- Of an `if` whose test isn't known.
  pub if-back : (c d e : PlainCore) (scope : Place) (s : WorldState) (v : Value) (t : WorldState) → Evaluates w (two_armed c d e) scope s v t → Parted (eval_of w c scope s) (two_arms w (eval_of w) d e scope) v t
  if-back c d e scope s v t g = parted (eval_of w c scope s) (two_arms w (eval_of w) d e scope) v t (steady c scope s) (expressed-gives (two_armed c d e) scope s v t g)

  -- Of calls whose operands are known.

  pub call-one-back : (c d : PlainCore) (scope : Place) (s t u q : WorldState) (f x v : Value)
      → Evaluates w c scope s f t → Evaluates w d scope t x u → Evaluates w (call c (more d none)) scope s v q → Calls w (call_to f (x ∷ [])) u v q
  call-one-back c d scope s t u q f x v h k g =
      known-first (eval_of w d scope t) (λ a. operands w (eval_of w) none scope ((f ∷ []) ++ a ∷ [])) v x q u (steady d scope t) k
      (known-first (eval_of w c scope s) (λ a. operands w (eval_of w) (more d none) scope (a ∷ [])) v f q t (steady c scope s) h (expressed-gives (call c (more d none)) scope s v q g))

  pub call-two-back : (c d e : PlainCore) (scope : Place) (s t u q p : WorldState) (f x y v : Value)
      → Evaluates w c scope s f t → Evaluates w d scope t x u → Evaluates w e scope u y q → Evaluates w (call c (more d (more e none))) scope s v p → Calls w (call_to f (x ∷ y ∷ [])) q v p
  call-two-back c d e scope s t u q p f x y v h k j g =
      known-first (eval_of w e scope u) (λ a. operands w (eval_of w) none scope ((f ∷ x ∷ []) ++ a ∷ [])) v y p q (steady e scope u) j
      (known-first (eval_of w d scope t) (λ a. operands w (eval_of w) (more e none) scope ((f ∷ []) ++ a ∷ [])) v x p u (steady d scope t) k
      (known-first (eval_of w c scope s) (λ a. operands w (eval_of w) (more d (more e none)) scope (a ∷ [])) v f p t (steady c scope s) h
      (expressed-gives (call c (more d (more e none))) scope s v p g)))

  pub call-four-back : (c d e a b : PlainCore) (scope : Place) (s t u q p o l : WorldState) (f x y z k v : Value)
      → Evaluates w c scope s f t → Evaluates w d scope t x u → Evaluates w e scope u y q → Evaluates w a scope q z p → Evaluates w b scope p k o
      → Evaluates w (call c (more d (more e (more a (more b none))))) scope s v l → Calls w (call_to f (x ∷ y ∷ z ∷ k ∷ [])) o v l
  call-four-back c d e a b scope s t u q p o l f x y z k v g h i j m given =
      known-first (eval_of w b scope p) (λ r. operands w (eval_of w) none scope ((f ∷ x ∷ y ∷ z ∷ []) ++ r ∷ [])) v k l o (steady b scope p) m
      (known-first (eval_of w a scope q) (λ r. operands w (eval_of w) (more b none) scope ((f ∷ x ∷ y ∷ []) ++ r ∷ [])) v z l p (steady a scope q) j
      (known-first (eval_of w e scope u) (λ r. operands w (eval_of w) (more a (more b none)) scope ((f ∷ x ∷ []) ++ r ∷ [])) v y l q (steady e scope u) i
      (known-first (eval_of w d scope t) (λ r. operands w (eval_of w) (more e (more a (more b none))) scope ((f ∷ []) ++ r ∷ [])) v x l u (steady d scope t) h
      (known-first (eval_of w c scope s) (λ r. operands w (eval_of w) (more d (more e (more a (more b none)))) scope (r ∷ [])) v f l t (steady c scope s) g
      (expressed-gives (call c (more d (more e (more a (more b none))))) scope s v l given)))))

  -- the first of two expressions gave a value, and the second the value of both
  pub sequence-back : (c d : PlainCore) (scope : Place) (s : WorldState) (v : Value) (t : WorldState) → Evaluates w (sequence (more c (more d none))) scope s v t
      → Parted (eval_of w c scope s) (λ x. in_sequence w (eval_of w) (more d none) scope) v t
  sequence-back c d scope s v t g =
      parted (eval_of w c scope s) (λ x. in_sequence w (eval_of w) (more d none) scope) v t (steady c scope s) (expressed-gives (sequence (more c (more d none))) scope s v t g)

  -- the one operand gave a value, and the call on that the value of all
  pub argument-back : (c d : PlainCore) (scope : Place) (s t : WorldState) (f v : Value) (q : WorldState) → Evaluates w c scope s f t → Evaluates w (call c (more d none)) scope s v q
      → Parted (eval_of w d scope t) (λ r. operands w (eval_of w) none scope ((f ∷ []) ++ r ∷ [])) v q
  argument-back c d scope s t f v q h given =
      parted (eval_of w d scope t) (λ r. operands w (eval_of w) none scope ((f ∷ []) ++ r ∷ [])) v q (steady d scope t)
      (known-first (eval_of w c scope s) (λ r. operands w (eval_of w) (more d none) scope (r ∷ [])) v f q t (steady c scope s) h (expressed-gives (call c (more d none)) scope s v q given))

  -- a pair is made of what its parts gave
  pub record Consed (c d : PlainCore) (scope : Place) (s : WorldState) (v : Value) (t : WorldState) : Type 0 where
    pub car_value : Value
    pub between : WorldState
    pub car_given : Evaluates w c scope s car_value between
    pub cdr_value : Value
    pub behind : WorldState
    pub cdr_given : Evaluates w d scope between cdr_value behind
    pub value_is : next_pair w behind ≡ v
    pub state_is : with_cell (cell.Pair car_value cdr_value) behind ≡ t

  pub cons-back : (c d : PlainCore) (scope : Place) (s : WorldState) (v : Value) (t : WorldState) → Evaluates w (cons c d) scope s v t → Consed c d scope s v t
  cons-back c d scope s v t g = record {
    car_value = first.value;
    between = first.state;
    car_given = first.first;
    cdr_value = second.value;
    behind = second.state;
    cdr_given = second.first;
    value_is = gives-one-value (call_of w (call_to op (first.value ∷ second.value ∷ [])) second.state) (next_pair w second.state) v (with_cell (cell.Pair first.value second.value) second.state) t made second.onward;
    state_is = gives-one-state (call_of w (call_to op (first.value ∷ second.value ∷ [])) second.state) (next_pair w second.state) v (with_cell (cell.Pair first.value second.value) second.state) t made second.onward;
  }
    where
      op : Value
      op = value.Prim (record { 0 = names.CONS })

      after_op : Gives (operands w (eval_of w) (more c (more d none)) scope (op ∷ []) s) v t
      after_op =
          known-first (eval_of w (prim names.CONS) scope s) (λ a. operands w (eval_of w) (more c (more d none)) scope (a ∷ [])) v op t s (steady (prim names.CONS) scope s)
          (primitive-is w (record { 0 = names.CONS }) scope s) (expressed-gives (call (prim names.CONS) (more c (more d none))) scope s v t g)

      first : Parted (eval_of w c scope s) (λ a. operands w (eval_of w) (more d none) scope ((op ∷ []) ++ a ∷ [])) v t
      first = parted (eval_of w c scope s) (λ a. operands w (eval_of w) (more d none) scope ((op ∷ []) ++ a ∷ [])) v t (steady c scope s) after_op

      second : Parted (eval_of w d scope first.state) (λ a. operands w (eval_of w) none scope ((op ∷ first.value ∷ []) ++ a ∷ [])) v t
      second = parted (eval_of w d scope first.state) (λ a. operands w (eval_of w) none scope ((op ∷ first.value ∷ []) ++ a ∷ [])) v t (steady d scope first.state) first.onward

      made : Calls w (call_to op (first.value ∷ second.value ∷ [])) second.state (next_pair w second.state) (with_cell (cell.Pair first.value second.value) second.state)
      made = cons-called w first.value second.value second.state

  -- Of procedures and texts.

  pub case-back : (number : CodeNo) (parent : Place) (args : List Value) (s : WorldState) (code : PlainCode) (f : Formals) (body : PlainCore) (v : Value) (t : WorldState)
      → code_at w.codes number ≡ Some code → first_case code.cases (length args) ≡ Some (f, body)
      → Gives (procedure_called w (eval_of w) number parent args s) v t
      → Gives (λ n. entered w (eval_of w) body parent s.names n (bindings f.rest f.required args s.cells)) v t
  unfolding procedure_called
  case-back number parent args s code f body v t is takes h =
      gives-same (procedure_called w (eval_of w) number parent args s) (λ n. entered w (eval_of w) body parent s.names n (bindings f.rest f.required args s.cells)) v t
      (λ n. sym (ap (by_code w (eval_of w) parent args s n) is ∙ ap (by_case w (eval_of w) parent args s n) takes)) h

  pub text-back : (op : Op) (args : List Value) (s t u : WorldState) (code : PlainCode) (body : PlainCore) (number : CodeNo) (parent : Place) (v : Value)
      → nat_eq op.0 names.APPLY ≡ false → has_text op.0 ≡ true → code_at w.codes (text_number op.0) ≡ Some code → text_body (Some code) ≡ Some body
      → Evaluates w body (next_place s) (with_cell (cell.Scope [] None) s) (value.Closure number parent) t
      → Calls w (call_to (value.Prim op) args) s v u → Gives (procedure_called w (eval_of w) number parent args t) v u
  unfolding op_called
  text-back op args s t u code body number parent v other some is text given g =
      known-first (eval_of w body (next_place s) (with_cell (cell.Scope [] None) s)) (text_value_called w (eval_of w) args) v (value.Closure number parent) u t
      (steady body (next_place s) (with_cell (cell.Scope [] None) s)) given
      (gives-same (call_of w (call_to (value.Prim op) args) s) (λ n. by_text w (eval_of w) args s n (Some body)) v u by g)
    where
      by : (n : ℕ) → by_text w (eval_of w) args s n (Some body) ≡ call_of w (call_to (value.Prim op) args) s n
      by n =
          sym (called-at-once w (value.Prim op) args s n (not-apply w op args other)
          ∙ ap (λ b. if b then by_text w (eval_of w) args s n (text_body (code_at w.codes (text_number op.0))) else primitive_called w op.0 args s n) some
          ∙ ap (λ o. by_text w (eval_of w) args s n (text_body o)) is ∙ ap (by_text w (eval_of w) args s n) text)
