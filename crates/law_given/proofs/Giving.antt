-- How the ends of parts make the end of the whole.
use Rattle.std.proofs.Common.{◌≡◌, ◌+◌, ◌-◌, ℕ, suc, List, [], ◌∷◌, ◌++◌, Bool, true, false, Ok, Err, refl, ap, ◌∙◌, arith, if◌then◌else◌}
use Rattle.base_data.specs.declared.fault.Bare.{Bare}
use Rattle.base_data.specs.declared.op.Op.{Op}
use Rattle.base_region.specs.declared.region.Place.{Place}
use Rattle.core_language.specs.Core.{PlainCore, primitive, one_armed, two_armed, sequence, procedure, call, PlainCores, none, more, PlainCases}
use Rattle.base_data.specs.declared.name.CodeNo.{CodeNo}
use Rattle.eval_value.specs.declared.value.Value.{Value}
use Rattle.eval_value.specs.declared.value.Value.TheVariants as value
use Rattle.eval_code.specs.Meaning.{eval_of, expressed, unrolled, operands, in_sequence, one_arm, two_arms}
use Rattle.eval_code.specs.Procedures.{truth_of}
use Rattle.eval_code.specs.Setting.{PlainSetting}
use Rattle.eval_code.specs.State.{WorldState, done, Go, then_do, charged}
use Rattle.eval_code.proofs.Fuel.{eval_of_is}
use Rattle.eval_code.proofs.Paid.{charged_paid}
use Rattle.law_eval.specs.Runs.{ByFuel}
use Rattle.law_given.specs.Calls.{CallEnd, ended, Ends, Gives, call_to, CallEnds, Calls}

pub gives-done : (v : Value) (s : WorldState) → Gives (λ n. done v s n) v s
gives-done v s = (0, λ left. ap (λ n. done v s n) (omega arith))

pub ends-same : (p q : ByFuel) (r : CallEnd) (t : WorldState) → ((n : ℕ) → q n ≡ p n) → Ends p r t → Ends q r t
ends-same p q r t e g = (g.0, λ left. e (left + g.0) ∙ g.1 left)

pub gives-same : (p q : ByFuel) (v : Value) (t : WorldState) → ((n : ℕ) → q n ≡ p n) → Gives p v t → Gives q v t
gives-same p q v t e g = ends-same p q (Ok v) t e g

pub ends-then : (p : ByFuel) (go : Go) (x : Value) (s : WorldState) (r : CallEnd) (t : WorldState) → Gives p x s → Ends (go x s) r t → Ends (λ n. then_do (p n) go) r t
ends-then p go x s r t g h = (h.0 + g.0, by)
  where
    by : (left : ℕ) → then_do (p (left + (h.0 + g.0))) go ≡ ended r t left
    by left =
        let e : left + (h.0 + g.0) ≡ (left + h.0) + g.0 = omega arith in
        ap (λ n. then_do (p n) go) e ∙ ap (λ o. then_do o go) (g.1 (left + h.0)) ∙ h.1 left

pub gives-then : (p : ByFuel) (go : Go) (x : Value) (s : WorldState) (v : Value) (t : WorldState) → Gives p x s → Gives (go x s) v t → Gives (λ n. then_do (p n) go) v t
gives-then p go x s v t g h = ends-then p go x s (Ok v) t g h

-- what faults goes no further
pub ends-stopped : (p : ByFuel) (go : Go) (f : Bare) (t : WorldState) → Ends p (Err f) t → Ends (λ n. then_do (p n) go) (Err f) t
ends-stopped p go f t g = (g.0, λ left. ap (λ o. then_do o go) (g.1 left))

pub ends-charged : (cost : ℕ) (s : WorldState) (go : ByFuel) (r : CallEnd) (t : WorldState) → Ends go r t → Ends (λ n. charged cost s n go) r t
ends-charged cost s go r t h = (h.0 + cost, by)
  where
    by : (left : ℕ) → charged cost s (left + (h.0 + cost)) go ≡ ended r t left
    by left =
        let e : left + (h.0 + cost) - cost ≡ left + h.0 = omega arith in
        charged_paid s go cost (left + (h.0 + cost)) (omega arith) ∙ ap go e ∙ h.1 left

pub gives-charged : (cost : ℕ) (s : WorldState) (go : ByFuel) (v : Value) (t : WorldState) → Gives go v t → Gives (λ n. charged cost s n go) v t
gives-charged cost s go v t h = ends-charged cost s go (Ok v) t h

module _ (w : PlainSetting) where
  -- an expression in a cell of variables
  abbrev pub Evaluates : PlainCore → Place → WorldState → Value → WorldState → Type 0
  Evaluates c scope s v t = Gives (eval_of w c scope s) v t

  -- likewise, with a value or a fault
  abbrev pub ExpressionEnds : PlainCore → Place → WorldState → CallEnd → WorldState → Type 0
  ExpressionEnds c scope s r t = Ends (eval_of w c scope s) r t

  pub ends-step : (c : PlainCore) (scope : Place) (s : WorldState) (r : CallEnd) (t : WorldState) → Ends (expressed w (eval_of w) c scope s) r t → ExpressionEnds c scope s r t
  ends-step c scope s r t h = (suc h.0, by)
    where
      by : (left : ℕ) → eval_of w c scope s (left + suc h.0) ≡ ended r t left
      by left =
          let e : left + suc h.0 ≡ suc (left + h.0) = omega arith in
          eval_of_is w c scope s (left + suc h.0) ∙ ap (λ n. unrolled w (eval_of w) c scope s n) e ∙ h.1 left

  pub evaluates-step : (c : PlainCore) (scope : Place) (s : WorldState) (v : Value) (t : WorldState) → Gives (expressed w (eval_of w) c scope s) v t → Evaluates c scope s v t
  evaluates-step c scope s v t h = ends-step c scope s (Ok v) t h

  pub primitive-is : (op : Op) (scope : Place) (s : WorldState) → Evaluates (primitive op) scope s (value.Prim op) s
  primitive-is op scope s = evaluates-step (primitive op) scope s (value.Prim op) s (gives-done (value.Prim op) s)

  pub procedure-is : (number : CodeNo) (cs : PlainCases) (plain : Bool) (scope : Place) (s : WorldState) → Evaluates (procedure number cs plain) scope s (value.Closure number scope) s
  procedure-is number cs plain scope s = evaluates-step (procedure number cs plain) scope s (value.Closure number scope) s (gives-done (value.Closure number scope) s)

  -- the arm that the test tells
  pub true-ends : (c d e : PlainCore) (scope : Place) (s t u : WorldState) (x : Value) (r : CallEnd) → Evaluates c scope s x t → truth_of x ≡ true → ExpressionEnds d scope t r u → ExpressionEnds (two_armed c d e) scope s r u
  true-ends c d e scope s t u x r test is h =
      ends-step (two_armed c d e) scope s r u
      (ends-then (eval_of w c scope s) (two_arms w (eval_of w) d e scope) x t r u test
      (ends-same (eval_of w d scope t) (two_arms w (eval_of w) d e scope x t) r u (λ n. by (truth_of x) is n) h))
    where
      by : (b : Bool) → b ≡ true → (n : ℕ) → (if b then eval_of w d scope t n else eval_of w e scope t n) ≡ eval_of w d scope t n
      by true k n = refl
      by false k n = absurd (cc)

  pub if-true : (c d e : PlainCore) (scope : Place) (s t u : WorldState) (x v : Value) → Evaluates c scope s x t → truth_of x ≡ true → Evaluates d scope t v u → Evaluates (two_armed c d e) scope s v u
  if-true c d e scope s t u x v test is h = true-ends c d e scope s t u x (Ok v) test is h

  pub false-ends : (c d e : PlainCore) (scope : Place) (s t u : WorldState) (x : Value) (r : CallEnd) → Evaluates c scope s x t → truth_of x ≡ false → ExpressionEnds e scope t r u → ExpressionEnds (two_armed c d e) scope s r u
  false-ends c d e scope s t u x r test is h =
      ends-step (two_armed c d e) scope s r u
      (ends-then (eval_of w c scope s) (two_arms w (eval_of w) d e scope) x t r u test
      (ends-same (eval_of w e scope t) (two_arms w (eval_of w) d e scope x t) r u (λ n. by (truth_of x) is n) h))
    where
      by : (b : Bool) → b ≡ false → (n : ℕ) → (if b then eval_of w d scope t n else eval_of w e scope t n) ≡ eval_of w e scope t n
      by false k n = refl
      by true k n = absurd (cc)

  -- a test that faults
  pub test-stops : (c d e : PlainCore) (scope : Place) (s t : WorldState) (f : Bare) → ExpressionEnds c scope s (Err f) t → ExpressionEnds (two_armed c d e) scope s (Err f) t
  test-stops c d e scope s t f h = ends-step (two_armed c d e) scope s (Err f) t (ends-stopped (eval_of w c scope s) (two_arms w (eval_of w) d e scope) f t h)

  pub if-false : (c d e : PlainCore) (scope : Place) (s t u : WorldState) (x v : Value) → Evaluates c scope s x t → truth_of x ≡ false → Evaluates e scope t v u → Evaluates (two_armed c d e) scope s v u
  if-false c d e scope s t u x v test is h = false-ends c d e scope s t u x (Ok v) test is h

  -- operands in their order, and then the call
  abbrev pub Operands : PlainCores → Place → List Value → WorldState → Value → WorldState → Type 0
  Operands cs scope vs s v t = Gives (operands w (eval_of w) cs scope vs s) v t

  abbrev pub OperandsEnd : PlainCores → Place → List Value → WorldState → CallEnd → WorldState → Type 0
  OperandsEnd cs scope vs s r t = Ends (operands w (eval_of w) cs scope vs s) r t

  pub operand-ends : (c : PlainCore) (cs : PlainCores) (scope : Place) (vs : List Value) (s t u : WorldState) (x : Value) (r : CallEnd)
      → Evaluates c scope s x t → OperandsEnd cs scope (vs ++ x ∷ []) t r u → OperandsEnd (more c cs) scope vs s r u
  operand-ends c cs scope vs s t u x r h k = ends-then (eval_of w c scope s) (λ v. operands w (eval_of w) cs scope (vs ++ v ∷ [])) x t r u h k

  pub operand : (c : PlainCore) (cs : PlainCores) (scope : Place) (vs : List Value) (s t u : WorldState) (x v : Value)
      → Evaluates c scope s x t → Operands cs scope (vs ++ x ∷ []) t v u → Operands (more c cs) scope vs s v u
  operand c cs scope vs s t u x v h k = operand-ends c cs scope vs s t u x (Ok v) h k

  -- an operand that faults
  pub operand-stops : (c : PlainCore) (cs : PlainCores) (scope : Place) (vs : List Value) (s t : WorldState) (f : Bare)
      → ExpressionEnds c scope s (Err f) t → OperandsEnd (more c cs) scope vs s (Err f) t
  operand-stops c cs scope vs s t f h = ends-stopped (eval_of w c scope s) (λ v. operands w (eval_of w) cs scope (vs ++ v ∷ [])) f t h

  pub call-ends : (c : PlainCore) (cs : PlainCores) (scope : Place) (s t u : WorldState) (f : Value) (r : CallEnd)
      → Evaluates c scope s f t → OperandsEnd cs scope (f ∷ []) t r u → ExpressionEnds (call c cs) scope s r u
  call-ends c cs scope s t u f r h k =
      ends-step (call c cs) scope s r u (ends-then (eval_of w c scope s) (λ f. operands w (eval_of w) cs scope (f ∷ [])) f t r u h k)

  pub call-is : (c : PlainCore) (cs : PlainCores) (scope : Place) (s t u : WorldState) (f v : Value)
      → Evaluates c scope s f t → Operands cs scope (f ∷ []) t v u → Evaluates (call c cs) scope s v u
  call-is c cs scope s t u f v h k = call-ends c cs scope s t u f (Ok v) h k

  -- calls of one operand, of two and more
  pub call-one-ends : (c d : PlainCore) (scope : Place) (s t u q : WorldState) (f x : Value) (r : CallEnd)
      → Evaluates c scope s f t → Evaluates d scope t x u → CallEnds w (call_to f (x ∷ [])) u r q → ExpressionEnds (call c (more d none)) scope s r q
  call-one-ends c d scope s t u q f x r g h k = call-ends c (more d none) scope s t q f r g (operand-ends d none scope (f ∷ []) t u q x r h k)

  pub call-one : (c d : PlainCore) (scope : Place) (s t u r : WorldState) (f x v : Value)
      → Evaluates c scope s f t → Evaluates d scope t x u → Calls w (call_to f (x ∷ [])) u v r → Evaluates (call c (more d none)) scope s v r
  call-one c d scope s t u r f x v g h k = call-one-ends c d scope s t u r f x (Ok v) g h k

  pub call-two-ends : (c d e : PlainCore) (scope : Place) (s t u q p : WorldState) (f x y : Value) (r : CallEnd)
      → Evaluates c scope s f t → Evaluates d scope t x u → Evaluates e scope u y q → CallEnds w (call_to f (x ∷ y ∷ [])) q r p
      → ExpressionEnds (call c (more d (more e none))) scope s r p
  call-two-ends c d e scope s t u q p f x y r g h j k =
      call-ends c (more d (more e none)) scope s t p f r g
      (operand-ends d (more e none) scope (f ∷ []) t u p x r h (operand-ends e none scope (f ∷ x ∷ []) u q p y r j k))

  pub call-two : (c d e : PlainCore) (scope : Place) (s t u q r : WorldState) (f x y v : Value)
      → Evaluates c scope s f t → Evaluates d scope t x u → Evaluates e scope u y q → Calls w (call_to f (x ∷ y ∷ [])) q v r
      → Evaluates (call c (more d (more e none))) scope s v r
  call-two c d e scope s t u q r f x y v g h j k = call-two-ends c d e scope s t u q r f x y (Ok v) g h j k

  pub call-three-ends : (c d e a : PlainCore) (scope : Place) (s t u q p o : WorldState) (f x y z : Value) (r : CallEnd)
      → Evaluates c scope s f t → Evaluates d scope t x u → Evaluates e scope u y q → Evaluates a scope q z p → CallEnds w (call_to f (x ∷ y ∷ z ∷ [])) p r o
      → ExpressionEnds (call c (more d (more e (more a none)))) scope s r o
  call-three-ends c d e a scope s t u q p o f x y z r g h j i k =
      call-ends c (more d (more e (more a none))) scope s t o f r g
      (operand-ends d (more e (more a none)) scope (f ∷ []) t u o x r h (operand-ends e (more a none) scope (f ∷ x ∷ []) u q o y r j (operand-ends a none scope (f ∷ x ∷ y ∷ []) q p o z r i k)))

  pub call-four-ends : (c d e a b : PlainCore) (scope : Place) (s t u q p o l : WorldState) (f x y z k : Value) (r : CallEnd)
      → Evaluates c scope s f t → Evaluates d scope t x u → Evaluates e scope u y q → Evaluates a scope q z p → Evaluates b scope p k o → CallEnds w (call_to f (x ∷ y ∷ z ∷ k ∷ [])) o r l
      → ExpressionEnds (call c (more d (more e (more a (more b none))))) scope s r l
  call-four-ends c d e a b scope s t u q p o l f x y z k r g h j i m n =
      call-ends c (more d (more e (more a (more b none)))) scope s t l f r g
      (operand-ends d (more e (more a (more b none))) scope (f ∷ []) t u l x r h
      (operand-ends e (more a (more b none)) scope (f ∷ x ∷ []) u q l y r j
      (operand-ends a (more b none) scope (f ∷ x ∷ y ∷ []) q p l z r i (operand-ends b none scope (f ∷ x ∷ y ∷ z ∷ []) p o l k r m n))))

  -- two expressions in a row
  pub sequence-two : (c d : PlainCore) (scope : Place) (s t u : WorldState) (x v : Value) → Evaluates c scope s x t → Evaluates d scope t v u → Evaluates (sequence (more c (more d none))) scope s v u
  sequence-two c d scope s t u x v h k =
      evaluates-step (sequence (more c (more d none))) scope s v u (gives-then (eval_of w c scope s) (λ v. in_sequence w (eval_of w) (more d none) scope) x t v u h k)

  pub sequence-stops : (c d : PlainCore) (scope : Place) (s t : WorldState) (f : Bare) → ExpressionEnds c scope s (Err f) t → ExpressionEnds (sequence (more c (more d none))) scope s (Err f) t
  sequence-stops c d scope s t f h =
      ends-step (sequence (more c (more d none))) scope s (Err f) t (ends-stopped (eval_of w c scope s) (λ v. in_sequence w (eval_of w) (more d none) scope) f t h)

  -- an `if` without what stands for the false value
  pub no-arm : (c d : PlainCore) (scope : Place) (s t : WorldState) (x : Value) → Evaluates c scope s x t → truth_of x ≡ false → Evaluates (one_armed c d) scope s value.Unspecified t
  no-arm c d scope s t x test is =
      evaluates-step (one_armed c d) scope s value.Unspecified t
      (gives-then (eval_of w c scope s) (one_arm w (eval_of w) d scope) x t value.Unspecified t test
      (gives-same (λ n. done value.Unspecified t n) (one_arm w (eval_of w) d scope x t) value.Unspecified t (λ n. by (truth_of x) is n) (gives-done value.Unspecified t)))
    where
      by : (b : Bool) → b ≡ false → (n : ℕ) → (if b then eval_of w d scope t n else done value.Unspecified t n) ≡ done value.Unspecified t n
      by false k n = refl
      by true k n = absurd (cc)
