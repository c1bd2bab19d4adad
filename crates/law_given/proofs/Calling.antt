-- What calls of each kind of procedure give.
use Rattle.std.proofs.Common.{◌≡◌, ◌+◌, ℕ, List, [], ◌∷◌, Some, None, true, false, Ok, length, refl, ap, subst, ◌∙◌, arith, if◌then◌else◌, nat_eq}
use Rattle.base_data.specs.declared.name.CodeNo.{CodeNo}
use Rattle.base_data.specs.declared.op.Op.{Op}
use Rattle.base_data.specs.declared.op.names.TheConstants as names
use Rattle.base_region.specs.declared.region.Place.{Place}
use Rattle.core_language.specs.Core.{PlainCore, PlainCode}
use Rattle.core_language.specs.declared.formals.Formals.{Formals}
use Rattle.eval_value.specs.declared.value.Value.{Value}
use Rattle.eval_value.specs.declared.value.Value.TheVariants as value
use Rattle.eval_value.specs.declared.cell.Cell.TheVariants as cell
use Rattle.eval_prims.specs.Cost.{cost}
use Rattle.eval_prims.specs.Delta.{delta}
use Rattle.eval_prims.specs.Perform.{performed, names_taken, name_after}
use Rattle.eval_prims.specs.declared.made.PrimResult.{PrimResult}
use Rattle.eval_code.specs.Codes.{code_at}
use Rattle.eval_code.specs.Meaning.{eval_of, answer_made, primitive_called, entered, by_case, by_code, procedure_called, text_value_called, by_text, op_called, value_called, first_called, applied}
use Rattle.eval_code.specs.Procedures.{first_case, bindings, has_text, text_number, text_body}
use Rattle.eval_code.specs.Setting.{PlainSetting}
use Rattle.eval_code.specs.Spread.{apply_args, spread_on, spread_to, spread}
use Rattle.eval_code.specs.State.{WorldState, done, store, next_place, with_cell}
use Rattle.law_given.specs.Calls.{CallEnd, Ends, Gives, call_to, call_of, CallEnds, Calls}
use Rattle.law_given.proofs.Giving.{gives-done, ends-same, gives-same, ends-then, gives-charged, Evaluates}

module _ (w : PlainSetting) where
  -- Procedures that a `lambda` made.

  pub closure-ends : (number : CodeNo) (parent : Place) (args : List Value) (s : WorldState) (r : CallEnd) (t : WorldState)
      → Ends (procedure_called w (eval_of w) number parent args s) r t → CallEnds w (call_to (value.Closure number parent) args) s r t
  unfolding applied spread first_called
  closure-ends number parent args s r t h = ends-same (procedure_called w (eval_of w) number parent args s) (call_of w (call_to (value.Closure number parent) args) s) r t (λ n. refl) h

  pub closure-called : (number : CodeNo) (parent : Place) (args : List Value) (s : WorldState) (v : Value) (t : WorldState)
      → Gives (procedure_called w (eval_of w) number parent args s) v t → Calls w (call_to (value.Closure number parent) args) s v t
  closure-called number parent args s v t h = closure-ends number parent args s (Ok v) t h

  pub closure-ends-back : (number : CodeNo) (parent : Place) (args : List Value) (s : WorldState) (r : CallEnd) (t : WorldState)
      → CallEnds w (call_to (value.Closure number parent) args) s r t → Ends (procedure_called w (eval_of w) number parent args s) r t
  unfolding applied spread first_called
  closure-ends-back number parent args s r t h = ends-same (call_of w (call_to (value.Closure number parent) args) s) (procedure_called w (eval_of w) number parent args s) r t (λ n. refl) h

  pub closure-back : (number : CodeNo) (parent : Place) (args : List Value) (s : WorldState) (v : Value) (t : WorldState)
      → Calls w (call_to (value.Closure number parent) args) s v t → Gives (procedure_called w (eval_of w) number parent args s) v t
  closure-back number parent args s v t h = closure-ends-back number parent args s (Ok v) t h

  -- the body of the case that takes the arguments, in a new cell with these variables
  pub case-ends : (number : CodeNo) (parent : Place) (args : List Value) (s : WorldState) (code : PlainCode) (f : Formals) (body : PlainCore) (r : CallEnd) (t : WorldState)
      → code_at w.codes number ≡ Some code → first_case code.cases (length args) ≡ Some (f, body)
      → Ends (λ n. entered w (eval_of w) body parent s.names n (bindings f.rest f.required args s.cells)) r t
      → Ends (procedure_called w (eval_of w) number parent args s) r t
  unfolding procedure_called
  case-ends number parent args s code f body r t is takes h =
      ends-same (λ n. entered w (eval_of w) body parent s.names n (bindings f.rest f.required args s.cells)) (procedure_called w (eval_of w) number parent args s) r t
      (λ n. ap (by_code w (eval_of w) parent args s n) is ∙ ap (by_case w (eval_of w) parent args s n) takes) h

  pub case-called : (number : CodeNo) (parent : Place) (args : List Value) (s : WorldState) (code : PlainCode) (f : Formals) (body : PlainCore) (v : Value) (t : WorldState)
      → code_at w.codes number ≡ Some code → first_case code.cases (length args) ≡ Some (f, body)
      → Gives (λ n. entered w (eval_of w) body parent s.names n (bindings f.rest f.required args s.cells)) v t
      → Gives (procedure_called w (eval_of w) number parent args s) v t
  case-called number parent args s code f body v t is takes h = case-ends number parent args s code f body (Ok v) t is takes h

  -- Primitives.

  pub not-apply : (op : Op) (args : List Value) → nat_eq op.0 names.APPLY ≡ false → apply_args (value.Prim op ∷ args) ≡ None
  not-apply op args e = ap (λ b. if b then Some args else None) e

  pub called-at-once : (f : Value) (args : List Value) (s : WorldState) (n : ℕ) → apply_args (f ∷ args) ≡ None → call_of w (call_to f args) s n ≡ value_called w (eval_of w) f args s n
  unfolding applied spread first_called
  called-at-once f args s n e =
      ap (spread_on s (spread_to (n + length (f ∷ args)) s (first_called w (eval_of w) s)) (first_called w (eval_of w) s (f ∷ args)) n) e

  answer-given : (op : ℕ) (args : List Value) (s : WorldState) (m : PrimResult) → delta op args s.cells w.frames ≡ Ok m
      → Gives (primitive_called w op args s) (performed m s.names s.cells).0 (store (performed m s.names s.cells).1 (name_after (names_taken m) s.names))
  unfolding primitive_called
  answer-given op args s m e =
      gives-charged (cost op args s.cells) s (λ n. answer_made s n (delta op args s.cells w.frames)) v t
      (gives-same (λ n. done v t n) (λ n. answer_made s n (delta op args s.cells w.frames)) v t (λ n. ap (answer_made s n) e) (gives-done v t))
    where
      v : Value
      v = (performed m s.names s.cells).0

      t : WorldState
      t = store (performed m s.names s.cells).1 (name_after (names_taken m) s.names)

  pub primitive-called : (op : Op) (args : List Value) (s : WorldState) (m : PrimResult) → nat_eq op.0 names.APPLY ≡ false → has_text op.0 ≡ false → delta op.0 args s.cells w.frames ≡ Ok m
      → Calls w (call_to (value.Prim op) args) s (performed m s.names s.cells).0 (store (performed m s.names s.cells).1 (name_after (names_taken m) s.names))
  unfolding op_called
  primitive-called op args s m other none e =
      gives-same (primitive_called w op.0 args s) (call_of w (call_to (value.Prim op) args) s) (performed m s.names s.cells).0 (store (performed m s.names s.cells).1 (name_after (names_taken m) s.names))
      (λ n. called-at-once (value.Prim op) args s n (not-apply op args other)
      ∙ ap (λ b. if b then by_text w (eval_of w) args s n (text_body (code_at w.codes (text_number op.0))) else primitive_called w op.0 args s n) none)
      (answer-given op.0 args s m e)

  same-names : (m : PrimResult) (s : WorldState) → names_taken m ≡ 0 → name_after (names_taken m) s.names ≡ s.names
  same-names m s e =
      let same : s.names.number + names_taken m ≡ s.names.number = omega (arith, e) in
      λ i. record { library = s.names.library; number = same i }

  -- a call that takes no name
  pub plain-called : (op : Op) (args : List Value) (s : WorldState) (m : PrimResult) → nat_eq op.0 names.APPLY ≡ false → has_text op.0 ≡ false → names_taken m ≡ 0 → delta op.0 args s.cells w.frames ≡ Ok m
      → Calls w (call_to (value.Prim op) args) s (performed m s.names s.cells).0 (store (performed m s.names s.cells).1 s.names)
  plain-called op args s m other none free e =
      subst (λ named. Calls w (call_to (value.Prim op) args) s (performed m s.names s.cells).0 (store (performed m s.names s.cells).1 named)) (same-names m s free)
      (primitive-called op args s m other none e)

  -- Procedures that are given as texts: the text gives a procedure, which is called.

  pub text-ends : (op : Op) (args : List Value) (s t u : WorldState) (code : PlainCode) (body : PlainCore) (number : CodeNo) (parent : Place) (r : CallEnd)
      → nat_eq op.0 names.APPLY ≡ false → has_text op.0 ≡ true → code_at w.codes (text_number op.0) ≡ Some code → text_body (Some code) ≡ Some body
      → Evaluates w body (next_place s) (with_cell (cell.Scope [] None) s) (value.Closure number parent) t
      → Ends (procedure_called w (eval_of w) number parent args t) r u
      → CallEnds w (call_to (value.Prim op) args) s r u
  unfolding op_called
  text-ends op args s t u code body number parent r other some is text given h =
      ends-same (λ n. by_text w (eval_of w) args s n (Some body)) (call_of w (call_to (value.Prim op) args) s) r u by
      (ends-then (eval_of w body (next_place s) (with_cell (cell.Scope [] None) s)) (text_value_called w (eval_of w) args) (value.Closure number parent) t r u given h)
    where
      by : (n : ℕ) → call_of w (call_to (value.Prim op) args) s n ≡ by_text w (eval_of w) args s n (Some body)
      by n =
          called-at-once (value.Prim op) args s n (not-apply op args other)
          ∙ ap (λ b. if b then by_text w (eval_of w) args s n (text_body (code_at w.codes (text_number op.0))) else primitive_called w op.0 args s n) some
          ∙ ap (λ o. by_text w (eval_of w) args s n (text_body o)) is ∙ ap (by_text w (eval_of w) args s n) text

  pub text-called : (op : Op) (args : List Value) (s t u : WorldState) (code : PlainCode) (body : PlainCore) (number : CodeNo) (parent : Place) (v : Value)
      → nat_eq op.0 names.APPLY ≡ false → has_text op.0 ≡ true → code_at w.codes (text_number op.0) ≡ Some code → text_body (Some code) ≡ Some body
      → Evaluates w body (next_place s) (with_cell (cell.Scope [] None) s) (value.Closure number parent) t
      → Gives (procedure_called w (eval_of w) number parent args t) v u
      → Calls w (call_to (value.Prim op) args) s v u
  text-called op args s t u code body number parent v other some is text given h = text-ends op args s t u code body number parent (Ok v) other some is text given h
