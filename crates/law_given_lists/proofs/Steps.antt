-- What an expression or a call ends with, by what one part of it ends with where the others are known.
use Rattle.std.proofs.Common.{◌≡◌, ◌+◌, ℕ, zero, suc, List, [], ◌∷◌, ◌++◌, Some, None, Bool, true, false, length, Ok, Err, ap, sym, ◌∙◌, arith, if◌then◌else◌, nat_eq}
use Rattle.base_data.specs.declared.name.CodeNo.{CodeNo}
use Rattle.base_data.specs.declared.op.Op.{Op}
use Rattle.base_data.specs.declared.op.names.TheConstants as names
use Rattle.base_region.specs.declared.region.Place.{Place}
use Rattle.core_language.specs.Core.{PlainCore, two_armed, sequence, call, PlainCores, none, more, PlainCode}
use Rattle.core_language.specs.declared.formals.Formals.{Formals}
use Rattle.eval_value.specs.ToSyntax.{fuel_spent}
use Rattle.eval_value.specs.declared.value.Value.{Value}
use Rattle.eval_value.specs.declared.value.Value.TheVariants as value
use Rattle.eval_value.specs.declared.cell.Cell.TheVariants as cell
use Rattle.eval_prims.specs.Chains.{list_elements}
use Rattle.eval_code.specs.Codes.{code_at}
use Rattle.eval_code.specs.Meaning.{eval_of, expressed, unrolled, operands, in_sequence, two_arms, primitive_called, entered, by_case, by_code, procedure_called, text_value_called, by_text, op_called}
use Rattle.eval_code.specs.Procedures.{first_case, bindings, has_text, text_number, text_body, truth_of}
use Rattle.eval_code.specs.Setting.{PlainSetting}
use Rattle.eval_code.specs.State.{WorldState, faulted, next_place, with_cell}
use Rattle.eval_code.proofs.Fuel.{eval_of_is}
use Rattle.law_eval.specs.Runs.{ByFuel}
use Rattle.law_eval.proofs.Carried.{AllCarried, all_carried}
use Rattle.law_given.specs.Calls.{CallEnd, ended, Ends, call_to, call_of, CallEnds}
use Rattle.law_given.proofs.Applying.{applies, apply-ends}
use Rattle.law_given.proofs.Calling.{called-at-once, not-apply, closure-ends, closure-ends-back, case-ends, text-ends}
use Rattle.law_given.proofs.Giving.{ends-same, Evaluates, ExpressionEnds, ends-step, true-ends, false-ends, OperandsEnd, operand-ends, call-ends, call-one-ends, call-two-ends, call-three-ends, call-four-ends}
use Rattle.law_given_lists.proofs.Splitting.{Iff, Real, real-of, enough-ends, Split, split-of, split-ends, known-ends}

module _ (w : PlainSetting) where
  carried : (c : PlainCore) (scope : Place) (s : WorldState) → AllCarried (eval_of w c scope s)
  carried c scope s = all_carried.expressions w c scope s

  pub call-real : (f : Value) (args : List Value) (s : WorldState) (r : CallEnd) (t : WorldState) → CallEnds w (call_to f args) s r t → Real r
  call-real f args s r t h = real-of (call_of w (call_to f args) s) (all_carried.calls w (f ∷ args) s) r t h

  pub expression-real : (c : PlainCore) (scope : Place) (s : WorldState) (r : CallEnd) (t : WorldState) → ExpressionEnds w c scope s r t → Real r
  expression-real c scope s r t h = real-of (eval_of w c scope s) (carried c scope s) r t h

  -- a unit was spent at the start
  spent-first : (c : PlainCore) (scope : Place) (s : WorldState) (r : CallEnd) (t : WorldState) → Real r → faulted fuel_spent s zero ≡ ended r t 0 → ⊥
  spent-first c scope s (Ok v) t real e = cc
  spent-first c scope s (Err f) t real e = let wrong : f ≡ fuel_spent = cc in real wrong

  expressed-by : (c : PlainCore) (scope : Place) (s : WorldState) (r : CallEnd) (t : WorldState) → Real r → (cost : ℕ) → ((left : ℕ) → eval_of w c scope s (left + cost) ≡ ended r t left) → Ends (expressed w (eval_of w) c scope s) r t
  expressed-by c scope s r t real zero h =
      let none : 0 + zero ≡ zero = omega arith in
      absurd (spent-first c scope s r t real (ap (λ n. unrolled w (eval_of w) c scope s n) (sym none) ∙ sym (eval_of_is w c scope s (0 + zero)) ∙ h 0))
  expressed-by c scope s r t real (suc k) h = (k, by)
    where
      by : (left : ℕ) → expressed w (eval_of w) c scope s (left + k) ≡ ended r t left
      by left =
          let e : suc (left + k) ≡ left + suc k = omega arith in
          ap (λ n. unrolled w (eval_of w) c scope s n) e ∙ sym (eval_of_is w c scope s (left + suc k)) ∙ h left

  pub expressed-ends : (c : PlainCore) (scope : Place) (s : WorldState) (r : CallEnd) (t : WorldState) → ExpressionEnds w c scope s r t → Ends (expressed w (eval_of w) c scope s) r t
  expressed-ends c scope s r t h = expressed-by c scope s r t (expression-real c scope s r t h) h.0 h.1

  -- Of an `if`.

  arms-ends : (b c : Bool) (o p : ByFuel) (r : CallEnd) (t : WorldState) → b ≡ c → Ends (λ n. if b then o n else p n) r t → Ends (λ n. if c then o n else p n) r t
  arms-ends b true o p r t e g = ends-same (λ n. if b then o n else p n) o r t (λ n. sym (ap (λ b. if b then o n else p n) e)) g
  arms-ends b false o p r t e g = ends-same (λ n. if b then o n else p n) p r t (λ n. sym (ap (λ b. if b then o n else p n) e)) g

  -- its test isn't known
  pub test-iff : (c d e : PlainCore) (scope : Place) (s : WorldState) (r : CallEnd) (t : WorldState)
      → Iff (ExpressionEnds w (two_armed c d e) scope s r t) (Split (eval_of w c scope s) (two_arms w (eval_of w) d e scope) r t)
  test-iff c d e scope s r t = (
    λ h. split-of (eval_of w c scope s) (two_arms w (eval_of w) d e scope) (carried c scope s) r t (expression-real (two_armed c d e) scope s r t h) (expressed-ends (two_armed c d e) scope s r t h),
    λ h. ends-step w (two_armed c d e) scope s r t (split-ends (eval_of w c scope s) (two_arms w (eval_of w) d e scope) r t h),
  )

  -- the arm that a value tells
  pub true-arm : (d e : PlainCore) (scope : Place) (x : Value) (t : WorldState) (r : CallEnd) (u : WorldState) → truth_of x ≡ true → Iff (Ends (two_arms w (eval_of w) d e scope x t) r u) (ExpressionEnds w d scope t r u)
  true-arm d e scope x t r u is = (
    λ h. arms-ends (truth_of x) true (eval_of w d scope t) (eval_of w e scope t) r u is h,
    λ h. arms-ends true (truth_of x) (eval_of w d scope t) (eval_of w e scope t) r u (sym is) h,
  )

  pub false-arm : (d e : PlainCore) (scope : Place) (x : Value) (t : WorldState) (r : CallEnd) (u : WorldState) → truth_of x ≡ false → Iff (Ends (two_arms w (eval_of w) d e scope x t) r u) (ExpressionEnds w e scope t r u)
  false-arm d e scope x t r u is = (
    λ h. arms-ends (truth_of x) false (eval_of w d scope t) (eval_of w e scope t) r u is h,
    λ h. arms-ends false (truth_of x) (eval_of w d scope t) (eval_of w e scope t) r u (sym is) h,
  )

  pub true-iff : (c d e : PlainCore) (scope : Place) (s t : WorldState) (x : Value) (r : CallEnd) (u : WorldState) → Evaluates w c scope s x t → truth_of x ≡ true
      → Iff (ExpressionEnds w (two_armed c d e) scope s r u) (ExpressionEnds w d scope t r u)
  true-iff c d e scope s t x r u h is = (
    λ g. (true-arm d e scope x t r u is).0 (known-ends (eval_of w c scope s) (two_arms w (eval_of w) d e scope) (carried c scope s) x t r u (expression-real (two_armed c d e) scope s r u g) h
        (expressed-ends (two_armed c d e) scope s r u g)),
    λ g. true-ends w c d e scope s t u x r h is g,
  )

  pub false-iff : (c d e : PlainCore) (scope : Place) (s t : WorldState) (x : Value) (r : CallEnd) (u : WorldState) → Evaluates w c scope s x t → truth_of x ≡ false
      → Iff (ExpressionEnds w (two_armed c d e) scope s r u) (ExpressionEnds w e scope t r u)
  false-iff c d e scope s t x r u h is = (
    λ g. (false-arm d e scope x t r u is).0 (known-ends (eval_of w c scope s) (two_arms w (eval_of w) d e scope) (carried c scope s) x t r u (expression-real (two_armed c d e) scope s r u g) h
        (expressed-ends (two_armed c d e) scope s r u g)),
    λ g. false-ends w c d e scope s t u x r h is g,
  )

  -- Of a call.

  -- what is called is known
  pub called-known : (c : PlainCore) (cs : PlainCores) (scope : Place) (s t : WorldState) (f : Value) (r : CallEnd) (u : WorldState) → Evaluates w c scope s f t
      → ExpressionEnds w (call c cs) scope s r u → OperandsEnd w cs scope (f ∷ []) t r u
  called-known c cs scope s t f r u h g =
      known-ends (eval_of w c scope s) (λ f. operands w (eval_of w) cs scope (f ∷ [])) (carried c scope s) f t r u (expression-real (call c cs) scope s r u g) h
      (expressed-ends (call c cs) scope s r u g)

  -- an operand is known
  pub operand-known : (d : PlainCore) (cs : PlainCores) (scope : Place) (vs : List Value) (t u : WorldState) (x : Value) (r : CallEnd) (q : WorldState) → Real r → Evaluates w d scope t x u
      → OperandsEnd w (more d cs) scope vs t r q → OperandsEnd w cs scope (vs ++ x ∷ []) u r q
  operand-known d cs scope vs t u x r q real h g =
      known-ends (eval_of w d scope t) (λ v. operands w (eval_of w) cs scope (vs ++ v ∷ [])) (carried d scope t) x u r q real h g

  -- an operand isn't
  pub operand-split : (d : PlainCore) (cs : PlainCores) (scope : Place) (vs : List Value) (t : WorldState) (r : CallEnd) (q : WorldState) → Real r
      → OperandsEnd w (more d cs) scope vs t r q → Split (eval_of w d scope t) (λ v. operands w (eval_of w) cs scope (vs ++ v ∷ [])) r q
  operand-split d cs scope vs t r q real g = split-of (eval_of w d scope t) (λ v. operands w (eval_of w) cs scope (vs ++ v ∷ [])) (carried d scope t) r q real g

  -- a call of what is known, whose first operand isn't
  pub first-iff : (c d : PlainCore) (cs : PlainCores) (scope : Place) (s t : WorldState) (f : Value) (r : CallEnd) (q : WorldState) → Evaluates w c scope s f t
      → Iff (ExpressionEnds w (call c (more d cs)) scope s r q) (Split (eval_of w d scope t) (λ v. operands w (eval_of w) cs scope ((f ∷ []) ++ v ∷ [])) r q)
  first-iff c d cs scope s t f r q h = (
    λ g. operand-split d cs scope (f ∷ []) t r q (expression-real (call c (more d cs)) scope s r q g) (called-known c (more d cs) scope s t f r q h g),
    λ g. call-ends w c (more d cs) scope s t q f r h (split-ends (eval_of w d scope t) (λ v. operands w (eval_of w) cs scope ((f ∷ []) ++ v ∷ [])) r q g),
  )

  -- whose second operand isn't
  pub second-iff : (c d e : PlainCore) (cs : PlainCores) (scope : Place) (s t u : WorldState) (f x : Value) (r : CallEnd) (q : WorldState) → Evaluates w c scope s f t → Evaluates w d scope t x u
      → Iff (ExpressionEnds w (call c (more d (more e cs))) scope s r q) (Split (eval_of w e scope u) (λ v. operands w (eval_of w) cs scope ((f ∷ x ∷ []) ++ v ∷ [])) r q)
  second-iff c d e cs scope s t u f x r q h k = (
    λ g. let real = expression-real (call c (more d (more e cs))) scope s r q g in
        operand-split e cs scope (f ∷ x ∷ []) u r q real
        (operand-known d (more e cs) scope (f ∷ []) t u x r q real k (called-known c (more d (more e cs)) scope s t f r q h g)),
    λ g. call-ends w c (more d (more e cs)) scope s t q f r h
        (operand-ends w d (more e cs) scope (f ∷ []) t u q x r k (split-ends (eval_of w e scope u) (λ v. operands w (eval_of w) cs scope ((f ∷ x ∷ []) ++ v ∷ [])) r q g)),
  )

  -- the last operand, which is known
  pub last-iff : (d : PlainCore) (scope : Place) (f : Value) (vs : List Value) (t u : WorldState) (x : Value) (r : CallEnd) (q : WorldState) → Real r → Evaluates w d scope t x u
      → Iff (OperandsEnd w (more d none) scope (f ∷ vs) t r q) (CallEnds w (call_to f (vs ++ x ∷ [])) u r q)
  last-iff d scope f vs t u x r q real k = (λ g. operand-known d none scope (f ∷ vs) t u x r q real k g, λ g. operand-ends w d none scope (f ∷ vs) t u q x r k g)

  -- two expressions in a row
  pub sequence-iff : (c d : PlainCore) (scope : Place) (s : WorldState) (r : CallEnd) (t : WorldState)
      → Iff (ExpressionEnds w (sequence (more c (more d none))) scope s r t) (Split (eval_of w c scope s) (λ x. in_sequence w (eval_of w) (more d none) scope) r t)
  sequence-iff c d scope s r t = (
    λ h. split-of (eval_of w c scope s) (λ x. in_sequence w (eval_of w) (more d none) scope) (carried c scope s) r t (expression-real (sequence (more c (more d none))) scope s r t h)
        (expressed-ends (sequence (more c (more d none))) scope s r t h),
    λ h. ends-step w (sequence (more c (more d none))) scope s r t (split-ends (eval_of w c scope s) (λ x. in_sequence w (eval_of w) (more d none) scope) r t h),
  )

  pub one-iff : (c d : PlainCore) (scope : Place) (s t u q : WorldState) (f x : Value) (r : CallEnd) → Evaluates w c scope s f t → Evaluates w d scope t x u
      → Iff (ExpressionEnds w (call c (more d none)) scope s r q) (CallEnds w (call_to f (x ∷ [])) u r q)
  one-iff c d scope s t u q f x r h k = (
    λ g. let real = expression-real (call c (more d none)) scope s r q g in
        operand-known d none scope (f ∷ []) t u x r q real k (called-known c (more d none) scope s t f r q h g),
    λ g. call-one-ends w c d scope s t u q f x r h k g,
  )

  pub two-iff : (c d e : PlainCore) (scope : Place) (s t u q p : WorldState) (f x y : Value) (r : CallEnd) → Evaluates w c scope s f t → Evaluates w d scope t x u → Evaluates w e scope u y q
      → Iff (ExpressionEnds w (call c (more d (more e none))) scope s r p) (CallEnds w (call_to f (x ∷ y ∷ [])) q r p)
  two-iff c d e scope s t u q p f x y r h k j = (
    λ g. let real = expression-real (call c (more d (more e none))) scope s r p g in
        operand-known e none scope (f ∷ x ∷ []) u q y r p real j
        (operand-known d (more e none) scope (f ∷ []) t u x r p real k (called-known c (more d (more e none)) scope s t f r p h g)),
    λ g. call-two-ends w c d e scope s t u q p f x y r h k j g,
  )

  pub three-iff : (c d e a : PlainCore) (scope : Place) (s t u q p o : WorldState) (f x y z : Value) (r : CallEnd)
      → Evaluates w c scope s f t → Evaluates w d scope t x u → Evaluates w e scope u y q → Evaluates w a scope q z p
      → Iff (ExpressionEnds w (call c (more d (more e (more a none)))) scope s r o) (CallEnds w (call_to f (x ∷ y ∷ z ∷ [])) p r o)
  three-iff c d e a scope s t u q p o f x y z r h k j i = (
    λ g. let real = expression-real (call c (more d (more e (more a none)))) scope s r o g in
        operand-known a none scope (f ∷ x ∷ y ∷ []) q p z r o real i
        (operand-known e (more a none) scope (f ∷ x ∷ []) u q y r o real j
        (operand-known d (more e (more a none)) scope (f ∷ []) t u x r o real k (called-known c (more d (more e (more a none))) scope s t f r o h g))),
    λ g. call-three-ends w c d e a scope s t u q p o f x y z r h k j i g,
  )

  pub four-iff : (c d e a b : PlainCore) (scope : Place) (s t u q p o l : WorldState) (f x y z k : Value) (r : CallEnd)
      → Evaluates w c scope s f t → Evaluates w d scope t x u → Evaluates w e scope u y q → Evaluates w a scope q z p → Evaluates w b scope p k o
      → Iff (ExpressionEnds w (call c (more d (more e (more a (more b none))))) scope s r l) (CallEnds w (call_to f (x ∷ y ∷ z ∷ k ∷ [])) o r l)
  four-iff c d e a b scope s t u q p o l f x y z k r g h j i m = (
    λ given. let real = expression-real (call c (more d (more e (more a (more b none))))) scope s r l given in
        operand-known b none scope (f ∷ x ∷ y ∷ z ∷ []) p o k r l real m
        (operand-known a (more b none) scope (f ∷ x ∷ y ∷ []) q p z r l real i
        (operand-known e (more a (more b none)) scope (f ∷ x ∷ []) u q y r l real j
        (operand-known d (more e (more a (more b none))) scope (f ∷ []) t u x r l real h (called-known c (more d (more e (more a (more b none)))) scope s t f r l g given)))),
    λ given. call-four-ends w c d e a b scope s t u q p o l f x y z k r g h j i m given,
  )

  -- the call that a call of `apply` stands for
  apply-back : (f : Value) (front xs : List Value) (l : Value) (s : WorldState) (r : CallEnd) (t : WorldState) → list_elements s.cells l ≡ Some xs
      → CallEnds w (call_to (value.Prim (record { 0 = names.APPLY })) (f ∷ (front ++ l ∷ []))) s r t → CallEnds w (call_to f (front ++ xs)) s r t
  apply-back f front xs l s r t has g =
      enough-ends (call_of w (call_to f (front ++ xs)) s) (all_carried.calls w (f ∷ (front ++ xs)) s) r t g.0 (length xs) (call-real (value.Prim (record { 0 = names.APPLY })) (f ∷ (front ++ l ∷ [])) s r t g)
      (sym (applies w f front xs l s (length xs + g.0) g.0 (omega arith) has) ∙ g.1 (length xs))

  pub apply-iff : (f : Value) (front xs : List Value) (l : Value) (s : WorldState) (r : CallEnd) (t : WorldState) → list_elements s.cells l ≡ Some xs
      → Iff (CallEnds w (call_to (value.Prim (record { 0 = names.APPLY })) (f ∷ (front ++ l ∷ []))) s r t) (CallEnds w (call_to f (front ++ xs)) s r t)
  apply-iff f front xs l s r t has = (apply-back f front xs l s r t has, apply-ends w f front xs l s r t has)

  -- Of procedures and texts.

  pub closure-iff : (number : CodeNo) (parent : Place) (args : List Value) (s : WorldState) (r : CallEnd) (t : WorldState)
      → Iff (CallEnds w (call_to (value.Closure number parent) args) s r t) (Ends (procedure_called w (eval_of w) number parent args s) r t)
  closure-iff number parent args s r t = (closure-ends-back w number parent args s r t, closure-ends w number parent args s r t)

  case-back : (number : CodeNo) (parent : Place) (args : List Value) (s : WorldState) (code : PlainCode) (f : Formals) (body : PlainCore) (r : CallEnd) (t : WorldState)
      → code_at w.codes number ≡ Some code → first_case code.cases (length args) ≡ Some (f, body)
      → Ends (procedure_called w (eval_of w) number parent args s) r t
      → Ends (λ n. entered w (eval_of w) body parent s.names n (bindings f.rest f.required args s.cells)) r t
  unfolding procedure_called
  case-back number parent args s code f body r t is takes h =
      ends-same (procedure_called w (eval_of w) number parent args s) (λ n. entered w (eval_of w) body parent s.names n (bindings f.rest f.required args s.cells)) r t
      (λ n. sym (ap (by_code w (eval_of w) parent args s n) is ∙ ap (by_case w (eval_of w) parent args s n) takes)) h

  pub case-iff : (number : CodeNo) (parent : Place) (args : List Value) (s : WorldState) (code : PlainCode) (f : Formals) (body : PlainCore) (r : CallEnd) (t : WorldState)
      → code_at w.codes number ≡ Some code → first_case code.cases (length args) ≡ Some (f, body)
      → Iff (Ends (procedure_called w (eval_of w) number parent args s) r t) (Ends (λ n. entered w (eval_of w) body parent s.names n (bindings f.rest f.required args s.cells)) r t)
  case-iff number parent args s code f body r t is takes = (case-back number parent args s code f body r t is takes, case-ends w number parent args s code f body r t is takes)

  text-back : (op : Op) (args : List Value) (s t u : WorldState) (code : PlainCode) (body : PlainCore) (number : CodeNo) (parent : Place) (r : CallEnd)
      → nat_eq op.0 names.APPLY ≡ false → has_text op.0 ≡ true → code_at w.codes (text_number op.0) ≡ Some code → text_body (Some code) ≡ Some body
      → Evaluates w body (next_place s) (with_cell (cell.Scope [] None) s) (value.Closure number parent) t
      → CallEnds w (call_to (value.Prim op) args) s r u → Ends (procedure_called w (eval_of w) number parent args t) r u
  unfolding op_called
  text-back op args s t u code body number parent r other some is text given g =
      known-ends (eval_of w body (next_place s) (with_cell (cell.Scope [] None) s)) (text_value_called w (eval_of w) args) (carried body (next_place s) (with_cell (cell.Scope [] None) s))
      (value.Closure number parent) t r u (call-real (value.Prim op) args s r u g) given
      (ends-same (call_of w (call_to (value.Prim op) args) s) (λ n. by_text w (eval_of w) args s n (Some body)) r u by g)
    where
      by : (n : ℕ) → by_text w (eval_of w) args s n (Some body) ≡ call_of w (call_to (value.Prim op) args) s n
      by n =
          sym (called-at-once w (value.Prim op) args s n (not-apply w op args other)
          ∙ ap (λ b. if b then by_text w (eval_of w) args s n (text_body (code_at w.codes (text_number op.0))) else primitive_called w op.0 args s n) some
          ∙ ap (λ o. by_text w (eval_of w) args s n (text_body o)) is ∙ ap (by_text w (eval_of w) args s n) text)

  pub text-iff : (op : Op) (args : List Value) (s t u : WorldState) (code : PlainCode) (body : PlainCore) (number : CodeNo) (parent : Place) (r : CallEnd)
      → nat_eq op.0 names.APPLY ≡ false → has_text op.0 ≡ true → code_at w.codes (text_number op.0) ≡ Some code → text_body (Some code) ≡ Some body
      → Evaluates w body (next_place s) (with_cell (cell.Scope [] None) s) (value.Closure number parent) t
      → Iff (CallEnds w (call_to (value.Prim op) args) s r u) (Ends (procedure_called w (eval_of w) number parent args t) r u)
  text-iff op args s t u code body number parent r other some is text given =
      (text-back op args s t u code body number parent r other some is text given, text-ends w op args s t u code body number parent r other some is text given)
