-- An evaluation comes to no fault but those that are told.
use Rattle.std.proofs.Common.{◌≡◌, ◌-◌, ◌+◌, ℕ, zero, suc, List, [], ◌∷◌, ◌++◌, Option, Some, None, Bool, true, false, Result, Ok, Err, length, refl, sym, ap, ◌∙◌, subst, arith, if◌then◌else◌, nat_lt, slice_get}
use Rattle.std.specs.Prelude.{option_map}
use Rattle.std.specs.Map.{lookup}
use Rattle.std.proofs.lemmas.Bool.Decides.{nat_tests}
use Rattle.base_data.specs.Datum.{PlainDatum}
use Rattle.base_data.specs.Same.{same_name_cases}
use Rattle.base_data.specs.declared.fault.Bare.{Bare}
use Rattle.base_data.specs.declared.name.CodeNo.{CodeNo}
use Rattle.base_data.specs.declared.name.Label.{Label}
use Rattle.base_data.specs.declared.op.Op.{Op}
use Rattle.base_region.specs.declared.region.Place.{Place}
use Rattle.stx_tree.specs.declared.frame_row.FrameRow.{FrameRow}
use Rattle.stx_frames.specs.Listed.{rows_in}
use Rattle.core_language.specs.Core.{PlainCore, quoted, variable, primitive, one_armed, two_armed, assignment, sequence, procedure, letrec, call, instance, matching}
use Rattle.core_language.specs.Core.{PlainCores, none, more, PlainInits, no_init, init, PlainCases, no_case, case, PlainClauses, no_clause, clause, fended, PlainCode}
use Rattle.core_language.specs.Labels.{same_label}
use Rattle.core_language.specs.Template.{PlainTemplate}
use Rattle.core_language.specs.declared.formals.Formals.{Formals}
use Rattle.core_language.specs.declared.record.Line.{Line}
use Rattle.core_language.specs.declared.record.Line.TheVariants as line
use Rattle.eval_value.specs.FromDatum.{stored}
use Rattle.eval_value.specs.ToSyntax.{fuel_spent}
use Rattle.eval_value.specs.declared.value.Value.{Value}
use Rattle.eval_value.specs.declared.value.Value.TheVariants as value
use Rattle.eval_value.specs.declared.cell.Cell.{Cell}
use Rattle.eval_value.specs.declared.cell.Cell.TheVariants as cell
use Rattle.eval_pattern.specs.declared.columns.PatternBinds.{PatternBinds}
use Rattle.eval_prims.specs.Answers.{PrimAnswer}
use Rattle.eval_prims.specs.Chains.{list_elements}
use Rattle.eval_prims.specs.Cost.{cost}
use Rattle.eval_prims.specs.Delta.{delta}
use Rattle.eval_template.specs.Binds.{unbound}
use Rattle.stx_frames.specs.Scope.{or_else}
use Rattle.eval_code.specs.Codes.{code_at}
use Rattle.eval_code.specs.Faults.{word_in}
use Rattle.eval_code.specs.Instances.{Binds, match_of, instance_of, cost_of, instance_made, instance_paid, instance_with, instanced, gathered}
use Rattle.eval_code.specs.Lines.{lines_from}
use Rattle.eval_code.specs.Meaning.{PlainLetrec, Evaluator, answer_made, primitive_called, variable_read, variable_value, quoted_value, by_case, by_code, procedure_called, text_value_called, by_text, op_called, value_called, first_called, applied, operands, in_sequence, in_turn, at_once, by_letrec, output_given, fender_asked, on_match, tried, expressed, unrolled, evaluates, eval_of}
use Rattle.eval_code.specs.Procedures.{takes_so_many, takes, first_case, has_text, text_number, text_body, truth_of}
use Rattle.eval_code.specs.Quoted.{datum_cost}
use Rattle.eval_code.specs.Setting.{PlainSetting}
use Rattle.eval_code.specs.Spread.{CallBy, apply_args, before_last, parted, with_elements, with_front, on_parts, spread_once, spread_on, spread_to, spread}
use Rattle.eval_code.specs.State.{WorldState, Outcome, done, faulted, unfit, Go, then_do, charged, made, store, next_place}
use Rattle.eval_code.specs.Trying.{clause_before}
use Rattle.eval_code.specs.Variables.{Entries, entry_in, here_or_up, found, assigned}
use Rattle.law_eval_faults.specs.Causes.{AreWords, HasUnset, HasNone, IsUnset, AreFor, NoneTakes, IsBadApply, IsEvaluationFault, FaultsAreOfThese}
use Rattle.law_eval_faults.specs.Causes as c
use Rattle.law_eval_faults.proofs.Refused.{refusals-are-told}
use Rattle.law_eval_faults.proofs.Uneven.{MayBeUneven, IsUneven, uneven-instance, uneven-measure}

-- Labels.

pub label-is : (l m : Label) → same_label l m ≡ true → l ≡ m
label-is l m h = let e = (same_name_cases l.0 m.0).0 h in λ i. record { 0 = e i }

pub label-self : (l : Label) → same_label l l ≡ true
label-self l = (same_name_cases l.0 l.0).1 refl

pub other-label : (l m : Label) → same_label l m ≡ false → l ≡ m → ⊥
other-label l m e s = let f : false ≡ true = sym e ∙ subst (λ (k : Label). same_label k m ≡ true) (sym s) (label-self m) in let g : ⊥ = cc in g

pub words-are : (l : Label) (rs : List FrameRow) → AreWords l rs (word_in rs l)
words-are l [] = c.no_row
words-are l (r ∷ rs) = by (words-are l rs) (same_label r.label l) refl
  where
    by : AreWords l rs (word_in rs l) → (b : Bool) → same_label r.label l ≡ b → AreWords l (r ∷ rs) (if b then r.symbol ∷ [] else word_in rs l)
    by rest true e = c.this_row (label-is r.label l e)
    by rest false e = c.another_row (other-label r.label l e) rest

-- Variables.

has-unset : (l : Label) (es : Entries) → lookup (same_label l) es ≡ Some None → HasUnset l es
has-unset l [] h = absurd (cc)
has-unset l (e ∷ es) h = by (has-unset l es) (same_label l e.0) refl h
  where
    by : (lookup (same_label l) es ≡ Some None → HasUnset l es) → (b : Bool) → same_label l e.0 ≡ b → (if b then Some e.1 else lookup (same_label l) es) ≡ Some None → HasUnset l (e ∷ es)
    by rest true same k =
        let here : e.1 ≡ None = cc in
        subst (λ m. HasUnset l ((m, e.1) ∷ es)) (label-is l e.0 same) (subst (λ o. HasUnset l ((l, o) ∷ es)) (sym here) c.this_variable)
    by rest false same k = c.another_variable (λ z. other-label l e.0 same (sym z)) (rest k)

has-none : (l : Label) (es : Entries) → lookup (same_label l) es ≡ None → HasNone l es
has-none l [] h = tt
has-none l (e ∷ es) h = by (has-none l es) (same_label l e.0) refl h
  where
    by : (lookup (same_label l) es ≡ None → HasNone l es) → (b : Bool) → same_label l e.0 ≡ b → (if b then Some e.1 else lookup (same_label l) es) ≡ None → HasNone l (e ∷ es)
    by rest true same k = absurd (cc)
    by rest false same k = (λ z. other-label l e.0 same (sym z), rest k)

module _ (globals : List (Label × Value)) (cells : List Cell) (l : Label) where
  no-global : (o : Option Value) → option_map (λ v. Some v) o ≡ Some None → ⊥
  no-global None h = cc
  no-global (Some v) h = cc

  abbrev Again : ℕ → Type 0
  Again k = (place : Place) → found k globals cells l (Some place) ≡ Some None → IsUnset cells l k place

  no-place : (k : ℕ) → found k globals cells l None ≡ Some None → ⊥
  no-place zero h = cc
  no-place (suc k) h = no-global (lookup (same_label l) globals) h

  unset-from : (k : ℕ) → Again k → (place : Place) (o : Option Cell) → slice_get cells place.0 ≡ o → here_or_up (entry_in l) (found k globals cells l) o ≡ Some None → IsUnset cells l (suc k) place
  unset-from k again place None e h = absurd (cc)
  unset-from k again place (Some (cell.Scope es parent)) e h = by (lookup (same_label l) es) refl h
    where
      up : HasNone l es → (p : Option Place) → slice_get cells place.0 ≡ Some (cell.Scope es p) → found k globals cells l p ≡ Some None → IsUnset cells l (suc k) place
      up n None e h = absurd (no-place k h)
      up n (Some p) e h = c.round_variables e n (again p h)

      by : (o : Option (Option Value)) → lookup (same_label l) es ≡ o → or_else o (found k globals cells l parent) ≡ Some None → IsUnset cells l (suc k) place
      by None f h = up (has-none l es f) parent e h
      by (Some None) f h = c.in_cell e (has-unset l es f)
      by (Some (Some v)) f h = absurd (cc)
  unset-from k again place (Some (cell.Binds bs parent)) e h = up parent e h
    where
      up : (p : Option Place) → slice_get cells place.0 ≡ Some (cell.Binds bs p) → found k globals cells l p ≡ Some None → IsUnset cells l (suc k) place
      up None e h = absurd (no-place k h)
      up (Some p) e h = c.round_pattern e (again p h)
  unset-from k again place (Some (cell.Pair x y)) e h = absurd (cc)
  unset-from k again place (Some (cell.Vector xs)) e h = absurd (cc)
  unset-from k again place (Some (cell.Str text)) e h = absurd (cc)
  unset-from k again place (Some (cell.Transformer x)) e h = absurd (cc)

  is-unset : (k : ℕ) → Again k
  is-unset zero place h = absurd (cc)
  is-unset (suc k) place h = unset-from k (is-unset k) place (slice_get cells place.0) refl h

-- Procedures.

takes-for : (o : Option Label) (required count : ℕ) → takes_so_many o required count ≡ false → AreFor o required count → ⊥
takes-for None required count h e = grind (arith, nat_tests, h, e)
takes-for (Some l) required count h e = grind (arith, nat_tests, h, e)

none-takes : (cs : PlainCases) (count : ℕ) → first_case cs count ≡ None → NoneTakes count cs
none-takes no_case count h = c.no_more
none-takes (case f body cs) count h = by (none-takes cs count) (takes f count) refl h
  where
    by : (first_case cs count ≡ None → NoneTakes count cs) → (b : Bool) → takes f count ≡ b → (if b then Some (f, body) else first_case cs count) ≡ None → NoneTakes count (case f body cs)
    by rest true e k = absurd (cc)
    by rest false e k = c.not_this (takes-for f.rest (length f.required) count e) (rest k)

-- `apply`

not-parted : (args : List Value) → parted args ≡ None → args ≡ []
not-parted [] h = refl
not-parted (x ∷ xs) h = absurd (cc)

parted-is : (args front : List Value) (last : Value) → ◌≡◌ {A = Option (List Value × Value)} (parted args) (Some (front, last)) → args ≡ front ++ last ∷ []
parted-is [] front last h = absurd (cc)
parted-is (x ∷ xs) front last h = by (parted-is xs) (parted xs) refl (let k : before_last x (parted xs) ≡ (front, last) = cc in k)
  where
    by : ((ys : List Value) (y : Value) → ◌≡◌ {A = Option (List Value × Value)} (parted xs) (Some (ys, y)) → xs ≡ ys ++ y ∷ []) → (o : Option (List Value × Value)) → parted xs ≡ o
        → ◌≡◌ {A = List Value × Value} (before_last x o) (front, last) → x ∷ xs ≡ front ++ last ∷ []
    by again None e k =
        let nil : xs ≡ [] = not-parted xs e in
        ap (λ ys. x ∷ ys) nil ∙ ap (λ (p : List Value × Value). p.0 ++ p.1 ∷ []) k
    by again (Some p) e k = ap (λ ys. x ∷ ys) (again p.0 p.1 e) ∙ ap (λ (q : List Value × Value). q.0 ++ q.1 ∷ []) k

module _ (w : PlainSetting) where
  abbrev pub Told : Outcome → Type 0
  Told (done v t m) = Unit {0}
  Told (faulted f t m) = IsEvaluationFault w t f
  Told unfit = Unit {0}

  told-then : (o : Outcome) (g : Go) → Told o → ((v : Value) (t : WorldState) (m : ℕ) → Told (g v t m)) → Told (then_do o g)
  told-then (done v t m) g h k = k v t m
  told-then (faulted f t m) g h k = h
  told-then unfit g h k = tt

  told-if : (b : Bool) (o p : Outcome) → Told o → Told p → Told (if b then o else p)
  told-if true o p h k = h
  told-if false o p h k = k

  told-charged : (s : WorldState) (price n : ℕ) (g : ℕ → Outcome) → ((m : ℕ) → Told (g m)) → Told (charged price s n g)
  told-charged s price n g h = told-if (nat_lt n price) (faulted fuel_spent s n) (g (n - price)) c.spent (h (n - price))

  of-uneven : (s : WorldState) (f : Bare) → IsUneven f → IsEvaluationFault w s f
  of-uneven s f u = subst (λ g. IsEvaluationFault w s g) (sym u.1.1.1) (c.uneven u.1.1.0)

  told-made : (s : WorldState) (r : Result (Value × List Cell) Bare) → MayBeUneven r → (n : ℕ) → Told (instance_made s r n)
  told-made s (Ok p) u n = tt
  told-made s (Err f) u n = of-uneven s f u

  told-paid : (s : WorldState) (n : ℕ) (r : Result (Value × List Cell) Bare) (k : Result ℕ Bare) → MayBeUneven r → MayBeUneven k → Told (instance_paid s n r k)
  told-paid s n r (Ok price) u v = told-charged s price n (instance_made s r) (told-made s r u)
  told-paid s n r (Err f) u v = of-uneven s f v

  told-with : (t : PlainTemplate) (s : WorldState) (n : ℕ) (o : Option Binds) → Told (instance_with t s n o)
  told-with t s n None = tt
  told-with t s n (Some bs) = told-paid s n (instance_of bs t s.cells) (cost_of bs t) (uneven-instance unbound bs t [] s.cells) (uneven-measure unbound bs t [])

  told-instanced : (t : PlainTemplate) (scope : Place) (s : WorldState) (n : ℕ) → Told (instanced t scope s n)
  unfolding instanced
  told-instanced t scope s n = told-with t s n (gathered s.cells scope t [])

  told-answer : (op : ℕ) (args : List Value) (s : WorldState) (n : ℕ) (a : PrimAnswer) → delta op args s.cells w.frames ≡ a → Told (answer_made s n a)
  told-answer op args s n (Ok m) e = tt
  told-answer op args s n (Err f) e = c.refused (refusals-are-told.only op args s.cells w.frames f e)

  told-primitive : (op : ℕ) (args : List Value) (s : WorldState) (n : ℕ) → Told (primitive_called w op args s n)
  unfolding primitive_called
  told-primitive op args s n =
      told-charged s (cost op args s.cells) n (λ m. answer_made s m (delta op args s.cells w.frames)) (λ m. told-answer op args s m (delta op args s.cells w.frames) refl)

  told-read : (l : Label) (scope : Place) (s : WorldState) (n : ℕ) (o : Option (Option Value)) → found (suc (length s.cells)) w.globals s.cells l (Some scope) ≡ o → Told (variable_read w l s n o)
  told-read l scope s n None e = tt
  told-read l scope s n (Some None) e = c.unset (is-unset w.globals s.cells l (suc (length s.cells)) scope e) (words-are l (rows_in l.0.library w.frames))
  told-read l scope s n (Some (Some v)) e = tt

  told-variable : (l : Label) (scope : Place) (s : WorldState) (n : ℕ) → Told (variable_value w l scope s n)
  unfolding variable_value
  told-variable l scope s n = told-read l scope s n (found (suc (length s.cells)) w.globals s.cells l (Some scope)) refl

  told-quoted : (d : PlainDatum) (s : WorldState) (n : ℕ) → Told (quoted_value d s n)
  unfolding quoted_value
  told-quoted d s n = told-charged s (datum_cost d) n (made s.names (stored d s.cells)) (λ m. tt)

  -- Calls.

  module _ (s : WorldState) (g : CallBy) (told : (vs : List Value) (n : ℕ) → Told (g vs n)) where
    told-elements : (x : Value) (front : List Value) (last : Value) (n : ℕ) (o : Option (List Value)) → list_elements s.cells last ≡ o → Told (with_elements (x ∷ front) s g n o)
    told-elements x front last n None e = c.bad_apply (c.on_no_list {x = x} front last e)
    told-elements x front last n (Some xs) e = told-charged s (length xs) n (g (x ∷ front ++ xs)) (told (x ∷ front ++ xs))

    told-front : (front : List Value) (last : Value) (n : ℕ) → Told (with_front front last s g n)
    told-front [] last n = c.bad_apply (c.with_one {x = last})
    told-front (x ∷ xs) last n = told-elements x xs last n (list_elements s.cells last) refl

    told-parts : (n : ℕ) (o : Option (List Value × Value)) → Told (on_parts s g n o)
    told-parts n None = c.bad_apply c.without_arguments
    told-parts n (Some p) = told-front p.0 p.1 n

    told-once : (args : List Value) (n : ℕ) → Told (spread_once args s g n)
    unfolding spread_once
    told-once args n = told-parts n (parted args)

  module _ (s : WorldState) (g : CallBy) (told : (vs : List Value) (n : ℕ) → Told (g vs n)) where
    told-to : (turns : ℕ) (vs : List Value) (n : ℕ) → Told (spread_to turns s g vs n)
    told-to zero vs n = tt
    told-to (suc turns) vs n = by_args (told-to turns) (apply_args vs)
      where
        by_args : ((ws : List Value) (m : ℕ) → Told (spread_to turns s g ws m)) → (o : Option (List Value)) → Told (spread_on s (spread_to turns s g) (g vs) n o)
        by_args again None = told vs n
        by_args again (Some args) = told-once s (spread_to turns s g) again args n

    told-spread : (vs : List Value) (n : ℕ) → Told (spread s g vs n)
    unfolding spread
    told-spread vs n = told-to (suc (n + length vs)) vs n

  module _ (E : Evaluator) (told : (e : PlainCore) (scope : Place) (s : WorldState) (n : ℕ) → Told (E e scope s n)) where
    told-case : (number : CodeNo) (code : PlainCode) → code_at w.codes number ≡ Some code → (parent : Place) (args : List Value) (s : WorldState) (n : ℕ) (x : Option (Formals × PlainCore)) → first_case code.cases (length args) ≡ x
        → Told (by_case w E parent args s n x)
    told-case number code at parent args s n None e = c.no_case_takes {count = length args} number at (none-takes code.cases (length args) e)
    told-case number code at parent args s n (Some x) e = told _ _ _ n

    told-code : (number : CodeNo) (parent : Place) (args : List Value) (s : WorldState) (n : ℕ) (x : Option PlainCode) → code_at w.codes number ≡ x → Told (by_code w E parent args s n x)
    told-code number parent args s n None e = tt
    told-code number parent args s n (Some code) e = told-case number code e parent args s n (first_case code.cases (length args)) refl

    told-procedure : (number : CodeNo) (parent : Place) (args : List Value) (s : WorldState) (n : ℕ) → Told (procedure_called w E number parent args s n)
    unfolding procedure_called
    told-procedure number parent args s n = told-code number parent args s n (code_at w.codes number) refl

    told-text_value : (args : List Value) (v : Value) (s : WorldState) (n : ℕ) → Told (text_value_called w E args v s n)
    told-text_value args (value.Closure number parent) s n = told-procedure number parent args s n
    told-text_value args value.Unspecified s n = tt
    told-text_value args (value.Atom x) s n = tt
    told-text_value args (value.Symbol x) s n = tt
    told-text_value args (value.Pair p) s n = tt
    told-text_value args (value.Vector p) s n = tt
    told-text_value args (value.Str p) s n = tt
    told-text_value args (value.Prim op) s n = tt
    told-text_value args (value.Syn t) s n = tt
    told-text_value args (value.Transformer p) s n = tt

    told-text : (args : List Value) (s : WorldState) (n : ℕ) (x : Option PlainCore) → Told (by_text w E args s n x)
    told-text args s n None = tt
    told-text args s n (Some body) = told-then _ _ (told body _ _ n) (told-text_value args)

    told-op : (op : Op) (args : List Value) (s : WorldState) (n : ℕ) → Told (op_called w E op args s n)
    unfolding op_called
    told-op op args s n = told-if (has_text op.0) _ _ (told-text args s n (text_body (code_at w.codes (text_number op.0)))) (told-primitive op.0 args s n)

    told-value : (f : Value) (args : List Value) (s : WorldState) (n : ℕ) → Told (value_called w E f args s n)
    told-value (value.Closure number parent) args s n = told-procedure number parent args s n
    told-value (value.Prim op) args s n = told-op op args s n
    told-value value.Unspecified args s n = c.no_procedure
    told-value (value.Atom x) args s n = c.no_procedure
    told-value (value.Symbol x) args s n = c.no_procedure
    told-value (value.Pair p) args s n = c.no_procedure
    told-value (value.Vector p) args s n = c.no_procedure
    told-value (value.Str p) args s n = c.no_procedure
    told-value (value.Syn t) args s n = c.no_procedure
    told-value (value.Transformer p) args s n = c.no_procedure

    told-first : (s : WorldState) (vs : List Value) (n : ℕ) → Told (first_called w E s vs n)
    unfolding first_called
    told-first s [] n = tt
    told-first s (f ∷ args) n = told-value f args s n

    told-applied : (vs : List Value) (s : WorldState) (n : ℕ) → Told (applied w E vs s n)
    unfolding applied
    told-applied vs s n = told-spread s (first_called w E s) (told-first s) vs n

    -- Parts in order.

    told-operands : (cs : PlainCores) (scope : Place) (vs : List Value) (s : WorldState) (n : ℕ) → Told (operands w E cs scope vs s n)
    told-operands none scope vs s n = told-applied vs s n
    told-operands (more e cs) scope vs s n = told-then _ _ (told e scope s n) (λ v t m. told-operands cs scope (vs ++ v ∷ []) t m)

    told-sequence : (cs : PlainCores) (scope : Place) (s : WorldState) (n : ℕ) → Told (in_sequence w E cs scope s n)
    told-sequence none scope s n = tt
    told-sequence (more e none) scope s n = told e scope s n
    told-sequence (more e (more d cs)) scope s n = told-then _ _ (told e scope s n) (λ v t m. told-sequence (more d cs) scope t m)

    told-in_turn : (is : PlainInits) (body : PlainCore) (scope : Place) (s : WorldState) (n : ℕ) → Told (in_turn w E is body scope s n)
    told-in_turn no_init body scope s n = told body scope s n
    told-in_turn (init l e is) body scope s n = told-then _ _ (told e scope s n) (λ v t m. told-in_turn is body scope (store (assigned t.cells scope l v) t.names) m)

    told-at_once : (is : PlainInits) (l : PlainLetrec) (vs : List Value) (s : WorldState) (n : ℕ) → Told (at_once w E is l vs s n)
    told-at_once no_init l vs s n = told l.body l.scope _ n
    told-at_once (init x e is) l vs s n = told-then _ _ (told e l.scope s n) (λ v t m. told-at_once is l (vs ++ v ∷ []) t m)

    told-letrec : (in_order : Bool) (l : PlainLetrec) (s : WorldState) (n : ℕ) → Told (by_letrec w E in_order l s n)
    told-letrec true l s n = told-in_turn l.variables l.body l.scope s n
    told-letrec false l s n = told-at_once l.variables l [] s n

    -- `syntax-case`

    abbrev Next : (Place → WorldState → ℕ → Outcome) → Type 0
    Next g = (scope : Place) (s : WorldState) (n : ℕ) → Told (g scope s n)

    told-asked : (g : Place → WorldState → ℕ → Outcome) → Next g → (fender output : PlainCore) (scope : Place) (f : PatternBinds) (s : WorldState) (n : ℕ) → Told (fender_asked w E fender (record { output = output; others = g scope; scope = scope }) f s n)
    told-asked g next fender output scope f s n = told-then _ _ (told fender _ _ n) (λ v t m. told-if (truth_of v) _ _ (told output (next_place s) t m) (next scope t m))

    told-match : (g : Place → WorldState → ℕ → Outcome) → Next g → (i : PatternBinds → WorldState → ℕ → Outcome) → ((f : PatternBinds) (s : WorldState) (n : ℕ) → Told (i f s n)) → (scope : Place) (s : WorldState) (n : ℕ) (o : Option PatternBinds)
        → Told (on_match w E (g scope) i s n o)
    told-match g next i take scope s n None = next scope s n
    told-match g next i take scope s n (Some f) = told-charged s f.taken n (i f s) (take f s)

    told-tried : (cs : PlainClauses) (v : Value) → Next (tried w E cs v)
    unfolding tried
    told-tried no_clause v scope s n = c.no_clause_taken
    told-tried (clause p output cs) v scope s n =
        told-charged s 1 n _ (λ m. told-match (tried w E cs v) (told-tried cs v) (output_given w E output scope) (λ f t k. told output _ _ k) scope s m (match_of w.frames s.cells p v))
    told-tried (fended p fender output cs) v scope s n =
        told-charged s 1 n _
        (λ m. told-match (tried w E cs v) (told-tried cs v) (fender_asked w E fender (clause_before w E output cs v scope)) (told-asked (tried w E cs v) (told-tried cs v) fender output scope) scope s m (match_of w.frames s.cells p v))

    told-expressed : (e : PlainCore) (scope : Place) (s : WorldState) (n : ℕ) → Told (expressed w E e scope s n)
    told-expressed (quoted d) scope s n = told-quoted d s n
    told-expressed (variable l) scope s n = told-variable l scope s n
    told-expressed (primitive op) scope s n = tt
    told-expressed (one_armed e d) scope s n = told-then _ _ (told e scope s n) (λ v t m. told-if (truth_of v) _ _ (told d scope t m) tt)
    told-expressed (two_armed e d b) scope s n = told-then _ _ (told e scope s n) (λ v t m. told-if (truth_of v) _ _ (told d scope t m) (told b scope t m))
    told-expressed (assignment l e) scope s n = c.assigned (words-are l (rows_in l.0.library w.frames))
    told-expressed (sequence cs) scope s n = told-sequence cs scope s n
    told-expressed (procedure number cs plain) scope s n = tt
    told-expressed (letrec in_order is e) scope s n = told-letrec in_order _ _ n
    told-expressed (call e cs) scope s n = told-then _ _ (told e scope s n) (λ f t m. told-operands cs scope (f ∷ []) t m)
    told-expressed (instance t sp) scope s n = told-instanced t scope s n
    told-expressed (matching e cs sp) scope s n = told-then _ _ (told e scope s n) (λ v t m. told-tried cs v scope t m)

    told-unrolled : (e : PlainCore) (scope : Place) (s : WorldState) (n : ℕ) → Told (unrolled w E e scope s n)
    told-unrolled e scope s zero = c.spent
    told-unrolled e scope s (suc n) = told-expressed e scope s n

  told-evaluates : (depth : ℕ) (e : PlainCore) (scope : Place) (s : WorldState) (n : ℕ) → Told (evaluates w depth e scope s n)
  unfolding evaluates
  told-evaluates zero e scope s n = c.spent
  told-evaluates (suc depth) e scope s n = told-unrolled (evaluates w depth) (told-evaluates depth) e scope s n

  told-eval_of : (e : PlainCore) (scope : Place) (s : WorldState) (n : ℕ) → Told (eval_of w e scope s n)
  unfolding eval_of
  told-eval_of e scope s n = told-evaluates n e scope s n

  told-call : (vs : List Value) (s : WorldState) (n : ℕ) → Told (applied w (eval_of w) vs s n)
  told-call vs s n = told-applied (eval_of w) told-eval_of vs s n

  told-lines : (ls : List Line) (scope : Place) (s : WorldState) (n : ℕ) → Told (lines_from (eval_of w) ls scope s n)
  told-lines [] scope s n = tt
  told-lines (line.Define l e ∷ ls) scope s n = told-then _ _ (told-eval_of e scope s n) (λ v t m. told-lines ls scope (store (assigned t.cells scope l v) t.names) m)
  told-lines (line.Expr e ∷ ls) scope s n = told-then _ _ (told-eval_of e scope s n) (λ v t m. told-lines ls scope t m)

pub faults-are-of-these : FaultsAreOfThese
faults-are-of-these = record {
  expressions = λ w e scope s t n m f h. subst (λ o. Told w o) h (told-eval_of w e scope s n);
  calls = λ w vs s t n m f h. subst (λ o. Told w o) h (told-call w vs s n);
  libraries = λ w ls scope s t n m f h. subst (λ o. Told w o) h (told-lines w ls scope s n);
}
