-- What the primitives give of which the texts are made.
use Rattle.std.proofs.Common.{◌≡◌, ℕ, List, [], ◌∷◌, Option, Some, Bool, false, not, Ok, Err, length, refl, ap, subst}
use Rattle.base_data.specs.declared.atom.Atom.TheVariants as a
use Rattle.base_data.specs.Datum as datum
use Rattle.base_data.specs.declared.fault.Bare.{Bare}
use Rattle.base_data.specs.declared.span.Span.{Span}
use Rattle.base_data.specs.declared.op.names.TheConstants as names
use Rattle.stx_frames.specs.Scope.{Scope}
use Rattle.base_region.specs.declared.region.Place.{Place}
use Rattle.core_language.specs.Core.{PlainCore, quoted, none, cores}
use Rattle.eval_value.specs.FromDatum.{pairs_stored}
use Rattle.eval_value.specs.declared.value.Value.{Value}
use Rattle.eval_value.specs.declared.value.Value.TheVariants as value
use Rattle.eval_value.specs.declared.cell.Cell.{Cell}
use Rattle.eval_value.specs.declared.cell.Cell.TheVariants as cell
use Rattle.eval_prims.specs.Answers.{or_refused, given, truth}
use Rattle.eval_prims.specs.Basics.{basic_made, kind_made, part, part_by, then_part, is_false}
use Rattle.eval_prims.specs.Chains.{pair_of, is_nil, list_elements}
use Rattle.eval_prims.specs.Delta.{delta, row_answer}
use Rattle.eval_prims.specs.Each.{if_some}
use Rattle.eval_prims.specs.Lists.{nil, gathered_made, elements_joined, appended_made}
use Rattle.eval_prims.specs.Primitives.{primitive_of}
use Rattle.eval_prims.specs.declared.made.PrimResult.TheVariants as made
use Rattle.eval_code.specs.Meaning.{quoted_value}
use Rattle.eval_code.specs.Procedures.{has_text, truth_of}
use Rattle.eval_code.specs.Setting.{PlainSetting}
use Rattle.eval_code.specs.State.{WorldState, done, store, with_cell}
use Rattle.law_given.specs.Calls.{Gives, call_to, Calls}
use Rattle.law_given.specs.Codes.{prim, app, car, cdr, is_null, cons}
use Rattle.law_given.proofs.Giving.{gives-done, gives-charged, Evaluates, evaluates-step, ExpressionEnds, primitive-is, operand-ends, operand-stops, call-ends, call-one, call-two}
use Rattle.law_given.proofs.Calling.{plain-called}

-- a pair is not the empty list
pub pair-not-nil : (cells : List Cell) (x y d : Value) → pair_of cells x ≡ Some (y, d) → is_nil x ≡ false
pair-not-nil cells (value.Pair p) y d e = refl
pair-not-nil cells (value.Atom x) y d e = absurd (cc)
pair-not-nil cells value.Unspecified y d e = refl
pair-not-nil cells (value.Symbol s) y d e = refl
pair-not-nil cells (value.Vector p) y d e = refl
pair-not-nil cells (value.Str p) y d e = refl
pair-not-nil cells (value.Closure c p) y d e = refl
pair-not-nil cells (value.Prim o) y d e = refl
pair-not-nil cells (value.Syn t) y d e = refl
pair-not-nil cells (value.Transformer p) y d e = refl

-- `not` turns round what counts
pub not-turns : (x : Value) → truth_of (truth (is_false x)) ≡ not (truth_of x)
not-turns (value.Atom a.Nil) = refl
not-turns (value.Atom (a.Bool b)) = refl
not-turns (value.Atom (a.Int z)) = refl
not-turns (value.Atom (a.Spelt s)) = refl
not-turns (value.Atom (a.Char c)) = refl
not-turns (value.Atom (a.Str s)) = refl
not-turns (value.Atom (a.Bytes bs)) = refl
not-turns value.Unspecified = refl
not-turns (value.Symbol s) = refl
not-turns (value.Pair p) = refl
not-turns (value.Vector p) = refl
not-turns (value.Str p) = refl
not-turns (value.Closure c p) = refl
not-turns (value.Prim o) = refl
not-turns (value.Syn t) = refl
not-turns (value.Transformer p) = refl

module _ (cells : List Cell) (frames : Scope) where
  null-answer : (x : Value) → delta names.IS_NULL (x ∷ []) cells frames ≡ Ok (made.Value (truth (is_nil x)))
  unfolding delta row_answer basic_made kind_made primitive_of
  null-answer x = refl

  not-answer : (x : Value) → delta names.NOT (x ∷ []) cells frames ≡ Ok (made.Value (truth (is_false x)))
  unfolding delta row_answer basic_made kind_made primitive_of
  not-answer x = refl

  car-answer : (x y d : Value) → pair_of cells x ≡ Some (y, d) → delta names.CAR (x ∷ []) cells frames ≡ Ok (made.Value y)
  unfolding delta row_answer basic_made part primitive_of
  car-answer x y d e = ap (λ o. or_refused names.CAR (given (then_part (part 3 1 cells) (part_by 0 o)))) e

  cdr-answer : (x y d : Value) → pair_of cells x ≡ Some (y, d) → delta names.CDR (x ∷ []) cells frames ≡ Ok (made.Value d)
  unfolding delta row_answer basic_made part primitive_of
  cdr-answer x y d e = ap (λ o. or_refused names.CDR (given (then_part (part 3 1 cells) (part_by 1 o)))) e

  cons-answer : (x y : Value) → delta names.CONS (x ∷ y ∷ []) cells frames ≡ Ok (made.List (x ∷ []) y)
  unfolding delta row_answer basic_made primitive_of
  cons-answer x y = refl

  list-answer : (x : Value) → delta names.LIST (x ∷ []) cells frames ≡ Ok (made.List (x ∷ []) nil)
  unfolding delta row_answer gathered_made primitive_of
  list-answer x = refl

  append-answer : (x y : Value) (xs : List Value) → list_elements cells x ≡ Some xs → delta names.APPEND (x ∷ y ∷ []) cells frames ≡ Ok (made.List xs y)
  unfolding delta row_answer appended_made elements_joined primitive_of
  append-answer x y xs e = ap (λ o. or_refused names.APPEND (if_some (if_some o (λ ys. Some ys)) (λ zs. Some (made.List zs y)))) e

module _ (w : PlainSetting) where
  -- a call of a primitive of one argument that makes no cell
  pub null-called : (x : Value) (s : WorldState) → Calls w (call_to (value.Prim (record { 0 = names.IS_NULL })) (x ∷ [])) s (truth (is_nil x)) s
  unfolding has_text
  null-called x s = plain-called w (record { 0 = names.IS_NULL }) (x ∷ []) s (made.Value (truth (is_nil x))) refl refl refl (null-answer s.cells w.frames x)

  pub not-called : (x : Value) (s : WorldState) → Calls w (call_to (value.Prim (record { 0 = names.NOT })) (x ∷ [])) s (truth (is_false x)) s
  unfolding has_text
  not-called x s = plain-called w (record { 0 = names.NOT }) (x ∷ []) s (made.Value (truth (is_false x))) refl refl refl (not-answer s.cells w.frames x)

  pub car-called : (x y d : Value) (s : WorldState) → pair_of s.cells x ≡ Some (y, d) → Calls w (call_to (value.Prim (record { 0 = names.CAR })) (x ∷ [])) s y s
  unfolding has_text
  car-called x y d s e = plain-called w (record { 0 = names.CAR }) (x ∷ []) s (made.Value y) refl refl refl (car-answer s.cells w.frames x y d e)

  pub cdr-called : (x y d : Value) (s : WorldState) → pair_of s.cells x ≡ Some (y, d) → Calls w (call_to (value.Prim (record { 0 = names.CDR })) (x ∷ [])) s d s
  unfolding has_text
  cdr-called x y d s e = plain-called w (record { 0 = names.CDR }) (x ∷ []) s (made.Value d) refl refl refl (cdr-answer s.cells w.frames x y d e)

  -- the place of the pair that is made next
  abbrev pub next_pair : WorldState → Value
  next_pair s = value.Pair (record { 0 = length s.cells })

  pub cons-called : (x y : Value) (s : WorldState) → Calls w (call_to (value.Prim (record { 0 = names.CONS })) (x ∷ y ∷ [])) s (next_pair s) (with_cell (cell.Pair x y) s)
  unfolding has_text
  cons-called x y s = plain-called w (record { 0 = names.CONS }) (x ∷ y ∷ []) s (made.List (x ∷ []) y) refl refl refl (cons-answer s.cells w.frames x y)

  pub list-called : (x : Value) (s : WorldState) → Calls w (call_to (value.Prim (record { 0 = names.LIST })) (x ∷ [])) s (next_pair s) (with_cell (cell.Pair x nil) s)
  unfolding has_text
  list-called x s = plain-called w (record { 0 = names.LIST }) (x ∷ []) s (made.List (x ∷ []) nil) refl refl refl (list-answer s.cells w.frames x)

  -- `append` of a list and a value
  pub appended : (x y : Value) (xs : List Value) (s : WorldState) → list_elements s.cells x ≡ Some xs
      → Calls w (call_to (value.Prim (record { 0 = names.APPEND })) (x ∷ y ∷ [])) s (pairs_stored xs (y, s.cells)).0 (store (pairs_stored xs (y, s.cells)).1 s.names)
  unfolding has_text
  appended x y xs s e = plain-called w (record { 0 = names.APPEND }) (x ∷ y ∷ []) s (made.List xs y) refl refl refl (append-answer s.cells w.frames x y xs e)

  -- Expressions that call them.

  module _ (c : PlainCore) (scope : Place) (s t : WorldState) (x : Value) (h : Evaluates w c scope s x t) where
    one : (op : ℕ) (v : Value) (u : WorldState) → Calls w (call_to (value.Prim (record { 0 = op })) (x ∷ [])) t v u → Evaluates w (app (prim op) (c ∷ [])) scope s v u
    one op v u k = call-one w (prim op) c scope s s t u (value.Prim (record { 0 = op })) x v (primitive-is w (record { 0 = op }) scope s) h k

    pub null-is : (b : Bool) → is_nil x ≡ b → Evaluates w (is_null c) scope s (truth b) t
    null-is b e = subst (λ b. Evaluates w (is_null c) scope s (truth b) t) e (one names.IS_NULL (truth (is_nil x)) t (null-called x t))

    pub not-is : Evaluates w (app (prim names.NOT) (c ∷ [])) scope s (truth (is_false x)) t
    not-is = one names.NOT (truth (is_false x)) t (not-called x t)

    pub car-is : (y d : Value) → pair_of t.cells x ≡ Some (y, d) → Evaluates w (car c) scope s y t
    car-is y d e = one names.CAR y t (car-called x y d t e)

    pub cdr-is : (y d : Value) → pair_of t.cells x ≡ Some (y, d) → Evaluates w (cdr c) scope s d t
    cdr-is y d e = one names.CDR d t (cdr-called x y d t e)

    pub list-is : Evaluates w (app (prim names.LIST) (c ∷ [])) scope s (next_pair t) (with_cell (cell.Pair x nil) t)
    list-is = one names.LIST (next_pair t) (with_cell (cell.Pair x nil) t) (list-called x t)

    pub cons-is : (d : PlainCore) (y : Value) (u : WorldState) → Evaluates w d scope t y u → Evaluates w (cons c d) scope s (next_pair u) (with_cell (cell.Pair x y) u)
    cons-is d y u k =
        call-two w (prim names.CONS) c d scope s s t u (with_cell (cell.Pair x y) u) (value.Prim (record { 0 = names.CONS })) x y (next_pair u) (primitive-is w (record { 0 = names.CONS }) scope s) h k (cons-called x y u)

  -- a pair whose second part faults
  pub cons-stops : (c d : PlainCore) (scope : Place) (s t u : WorldState) (x : Value) (e : Bare) → Evaluates w c scope s x t → ExpressionEnds w d scope t (Err e) u → ExpressionEnds w (cons c d) scope s (Err e) u
  cons-stops c d scope s t u x e h k =
      call-ends w (prim names.CONS) (cores (c ∷ d ∷ [])) scope s s u (value.Prim (record { 0 = names.CONS })) (Err e) (primitive-is w (record { 0 = names.CONS }) scope s)
      (operand-ends w c (cores (d ∷ [])) scope (value.Prim (record { 0 = names.CONS }) ∷ []) s t u x (Err e) h
      (operand-stops w d none scope (value.Prim (record { 0 = names.CONS }) ∷ x ∷ []) t u e k))

  -- Constants.

  nil-quoted : (span : Option Span) (s : WorldState) → Gives (λ n. quoted_value (datum.atom span a.Nil) s n) nil s
  unfolding quoted_value
  nil-quoted span s = gives-charged 0 s (λ n. done nil s n) nil s (gives-done nil s)

  pub nil-is : (span : Option Span) (scope : Place) (s : WorldState) → Evaluates w (quoted (datum.atom span a.Nil)) scope s nil s
  nil-is span scope s = evaluates-step w (quoted (datum.atom span a.Nil)) scope s nil s (nil-quoted span s)

  bool-quoted : (span : Option Span) (b : Bool) (s : WorldState) → Gives (λ n. quoted_value (datum.atom span (a.Bool b)) s n) (truth b) s
  unfolding quoted_value
  bool-quoted span b s = gives-charged 0 s (λ n. done (truth b) s n) (truth b) s (gives-done (truth b) s)

  pub bool-is : (span : Option Span) (b : Bool) (scope : Place) (s : WorldState) → Evaluates w (quoted (datum.atom span (a.Bool b))) scope s (truth b) s
  bool-is span b scope s = evaluates-step w (quoted (datum.atom span (a.Bool b))) scope s (truth b) s (bool-quoted span b s)
