-- Where a cause is met, there is its fault.
use Rattle.std.proofs.Common.{◌≡◌, ◌≤◌, ◌-◌, ◌+◌, ℕ, suc, List, [], ◌∷◌, ◌++◌, Option, Some, None, Bool, true, false, Err, length, refl, sym, ap, ◌∙◌, subst, arith, if◌then◌else◌, slice_get}
use Rattle.std.specs.Prelude.{nat_eq, decimal}
use Rattle.std.specs.Map.{lookup}
use Rattle.std.proofs.lemmas.Bool.Decides.{nat_tests}
use Rattle.base_data.specs.declared.fault.Bare.{Bare}
use Rattle.base_data.specs.declared.fault.FaultKind.TheVariants as kind
use Rattle.base_data.specs.declared.name.CodeNo.{CodeNo}
use Rattle.base_data.specs.declared.name.Label.{Label}
use Rattle.base_data.specs.declared.op.Op.{Op}
use Rattle.base_data.specs.declared.op.names.TheConstants as names
use Rattle.base_region.specs.declared.region.Place.{Place}
use Rattle.stx_tree.specs.declared.frame_row.FrameRow.{FrameRow}
use Rattle.stx_frames.specs.Listed.{rows_in}
use Rattle.stx_frames.specs.Scope.{or_else}
use Rattle.core_language.specs.Core.{PlainCore, variable, assignment, instance, matching, PlainCases, PlainClauses, no_clause, clause, fended, PlainCode}
use Rattle.core_language.specs.Labels.{same_label}
use Rattle.core_language.specs.Pattern.{PlainPattern}
use Rattle.core_language.specs.Template.{PlainTemplate}
use Rattle.eval_value.specs.declared.value.Value.{Value}
use Rattle.eval_value.specs.declared.value.Value.TheVariants as value
use Rattle.eval_value.specs.declared.cell.Cell.{Cell}
use Rattle.eval_value.specs.declared.cell.Cell.TheVariants as cell
use Rattle.eval_prims.specs.Cost.{cost}
use Rattle.eval_prims.specs.Delta.{delta}
use Rattle.eval_code.proofs.Fuel.{eval_of_is}
use Rattle.eval_code.proofs.Paid.{charged_paid}
use Rattle.eval_code.proofs.Spreading.{parted_last}
use Rattle.eval_code.specs.Codes.{code_at}
use Rattle.eval_code.specs.Faults.{word_in, not_procedure, no_match}
use Rattle.eval_code.specs.Instances.{Binds, match_of, instance_of, cost_of, instance_paid, instance_with, instanced, gathered}
use Rattle.eval_code.specs.Meaning.{answer_made, primitive_called, variable_read, variable_value, by_case, by_code, by_text, procedure_called, op_called, value_called, first_called, applied, fender_asked, fender_passed, output_given, on_match, tried, eval_of}
use Rattle.eval_code.specs.Procedures.{takes_so_many, first_case, has_text, text_number, text_body}
use Rattle.eval_code.specs.Setting.{PlainSetting}
use Rattle.eval_code.specs.Spread.{apply_args, parted, with_elements, on_parts, spread_once, spread_on, spread_to, spread}
use Rattle.eval_code.specs.State.{WorldState, Outcome, faulted, then_do, charged, next_place}
use Rattle.eval_code.specs.Trying.{clause_before}
use Rattle.eval_code.specs.Variables.{Entries, entry_in, parent_in, upwards, here_or_up, found}
use Rattle.law_eval_faults.specs.Causes.{AreWords, HasUnset, HasNone, IsUnset, IsProcedure, AreFor, NoneTakes, IsBadApply, with_binds, ArePassed, CausesAreFaults}
use Rattle.law_eval_faults.specs.Causes as c
use Rattle.law_eval_faults.specs.Refusals.{IsRefusedCall}
use Rattle.law_eval_faults.proofs.Caused.{label-is, label-self}
use Rattle.law_eval_faults.proofs.Refused.{refusals-are-told}

-- Labels.

differs : (l m : Label) → (l ≡ m → ⊥) → same_label l m ≡ false
differs l m h = by (same_label l m) refl
  where
    by : (b : Bool) → same_label l m ≡ b → same_label l m ≡ false
    by true e = absurd (h (label-is l m e))
    by false e = e

words-only : (l : Label) (rs : List FrameRow) (words : List (List ℕ)) → AreWords l rs words → word_in rs l ≡ words
words-only l _ _ (c.no_row) = refl
words-only l _ _ (c.this_row {r} {rs} e) = ap (λ b. if b then r.symbol ∷ [] else word_in rs l) (subst (λ m. same_label m l ≡ true) (sym e) (label-self l))
words-only l _ _ (c.another_row {r} {rs} {words} e h) = ap (λ b. if b then r.symbol ∷ [] else word_in rs l) (differs r.label l e) ∙ words-only l rs words h

-- Variables.

lookup-unset : (l : Label) (es : Entries) → HasUnset l es → lookup (same_label l) es ≡ Some None
lookup-unset l _ (c.this_variable {es}) = ap (λ b. if b then Some None else lookup (same_label l) es) (label-self l)
lookup-unset l _ (c.another_variable {m} {o} {es} e h) = ap (λ b. if b then Some o else lookup (same_label l) es) (differs l m (λ z. e (sym z))) ∙ lookup-unset l es h

lookup-none : (l : Label) (es : Entries) → HasNone l es → lookup (same_label l) es ≡ None
lookup-none l [] h = refl
lookup-none l (e ∷ es) h = ap (λ b. if b then Some e.1 else lookup (same_label l) es) (differs l e.0 (λ z. h.0 (sym z))) ∙ lookup-none l es h.1

module _ (globals : List (Label × Value)) (cells : List Cell) (l : Label) where
  here : (k : ℕ) (place : Place) (x : Cell) → slice_get cells place.0 ≡ Some x → found (suc k) globals cells l (Some place) ≡ or_else (entry_in l x) (upwards (found k globals cells l) (parent_in x))
  here k place x e = ap (λ o. here_or_up (entry_in l) (found k globals cells l) o) e

  found-unset : (k : ℕ) (place : Place) → IsUnset cells l k place → found k globals cells l (Some place) ≡ Some None
  found-unset _ _ (c.in_cell {n} {place} {es} {parent} e h) = here n place (cell.Scope es parent) e ∙ ap (λ o. or_else o (found n globals cells l parent)) (lookup-unset l es h)
  found-unset _ _ (c.round_variables {n} {place} {parent} {es} e h u) =
      here n place (cell.Scope es (Some parent)) e ∙ ap (λ o. or_else o (found n globals cells l (Some parent))) (lookup-none l es h) ∙ found-unset n parent u
  found-unset _ _ (c.round_pattern {n} {place} {parent} {bs} e u) = here n place (cell.Binds bs (Some parent)) e ∙ found-unset n parent u

-- Procedures.

not-for : (o : Option Label) (required count : ℕ) → (AreFor o required count → ⊥) → takes_so_many o required count ≡ false
not-for o required count h = by o refl (takes_so_many o required count) refl
  where
    yes-for : (p : Option Label) → takes_so_many p required count ≡ true → AreFor p required count
    yes-for None e = grind (arith, nat_tests, e)
    yes-for (Some l) e = grind (arith, nat_tests, e)

    by : (p : Option Label) → o ≡ p → (b : Bool) → takes_so_many o required count ≡ b → takes_so_many o required count ≡ false
    by p same true e = absurd (h (yes-for o e))
    by p same false e = e

first-none : (count : ℕ) (cs : PlainCases) → NoneTakes count cs → first_case cs count ≡ None
first-none count _ (c.no_more) = refl
first-none count _ (c.not_this {f} {c = body} {cs} h rest) = ap (λ b. if b then Some (f, body) else first_case cs count) (not-for f.rest (length f.required) count h) ∙ first-none count cs rest

module _ (w : PlainSetting) where
  abbrev E : PlainCore → Place → WorldState → ℕ → Outcome
  E = eval_of w

  -- what isn't `apply` is called at once
  called : (s : WorldState) (f : Value) (args : List Value) (n : ℕ) → apply_args (f ∷ args) ≡ None → applied w E (f ∷ args) s n ≡ value_called w E f args s n
  unfolding applied spread first_called
  called s f args n e = ap (λ o. spread_on s (spread_to (n + length (f ∷ args)) s (first_called w E s)) (first_called w E s (f ∷ args)) n o) e

  no-procedure : (v : Value) (args : List Value) (s : WorldState) (n : ℕ) → (IsProcedure v → ⊥) → applied w E (v ∷ args) s n ≡ faulted not_procedure s n
  no-procedure value.Unspecified args s n h = called s value.Unspecified args n refl
  no-procedure (value.Atom x) args s n h = called s (value.Atom x) args n refl
  no-procedure (value.Symbol x) args s n h = called s (value.Symbol x) args n refl
  no-procedure (value.Pair p) args s n h = called s (value.Pair p) args n refl
  no-procedure (value.Vector p) args s n h = called s (value.Vector p) args n refl
  no-procedure (value.Str p) args s n h = called s (value.Str p) args n refl
  no-procedure (value.Closure code p) args s n h = absurd (h tt)
  no-procedure (value.Prim op) args s n h = absurd (h tt)
  no-procedure (value.Syn t) args s n h = called s (value.Syn t) args n refl
  no-procedure (value.Transformer p) args s n h = called s (value.Transformer p) args n refl

  by-number : (number : CodeNo) (parent : Place) (code : PlainCode) (args : List Value) (s : WorldState) (n : ℕ) → code_at w.codes number ≡ Some code → procedure_called w E number parent args s n ≡ by_case w E parent args s n (first_case code.cases (length args))
  unfolding procedure_called
  by-number number parent code args s n e = ap (λ o. by_code w E parent args s n o) e

  no-case : (number : CodeNo) (parent : Place) (code : PlainCode) (args : List Value) (s : WorldState) (n : ℕ) → code_at w.codes number ≡ Some code → NoneTakes (length args) code.cases
      → applied w E (value.Closure number parent ∷ args) s n ≡ faulted (record { kind = kind.Arity; words = decimal (length args) ∷ [] }) s n
  no-case number parent code args s n e h =
      called s (value.Closure number parent) args n refl ∙ by-number number parent code args s n e ∙ ap (λ o. by_case w E parent args s n o) (first-none (length args) code.cases h)

  spread-apply : (args : List Value) (s : WorldState) (n : ℕ)
      → applied w E (value.Prim (record { 0 = names.APPLY }) ∷ args) s n ≡ on_parts s (spread_to (n + length (value.Prim (record { 0 = names.APPLY }) ∷ args)) s (first_called w E s)) n (parted args)
  unfolding applied spread spread_once
  spread-apply args s n = refl

  bad-apply : (args : List Value) (s : WorldState) (n : ℕ) (f : Bare) → IsBadApply s.cells args f → applied w E (value.Prim (record { 0 = names.APPLY }) ∷ args) s n ≡ faulted f s n
  bad-apply _ s n _ (c.without_arguments) = spread-apply [] s n
  bad-apply _ s n _ (c.with_one {x}) = spread-apply (x ∷ []) s n
  bad-apply _ s n _ (c.on_no_list {x} xs last e) =
      spread-apply (x ∷ xs ++ last ∷ []) s n
      ∙ ap (λ o. on_parts s (spread_to (n + length (value.Prim (record { 0 = names.APPLY }) ∷ (x ∷ xs ++ last ∷ []))) s (first_called w E s)) n o) (parted_last (x ∷ xs) last)
      ∙ ap (λ o. with_elements (x ∷ xs) s (spread_to (n + length (value.Prim (record { 0 = names.APPLY }) ∷ (x ∷ xs ++ last ∷ []))) s (first_called w E s)) n o) e

  not-apply : (op : ℕ) → (op ≡ names.APPLY → ⊥) → nat_eq op names.APPLY ≡ false
  not-apply op h = by (nat_eq op names.APPLY) refl
    where
      by : (b : Bool) → nat_eq op names.APPLY ≡ b → nat_eq op names.APPLY ≡ false
      by true e = absurd (h (grind (arith, nat_tests, e)))
      by false e = e

  without-text : (op : Op) (args : List Value) (s : WorldState) (n : ℕ) → has_text op.0 ≡ false → op_called w E op args s n ≡ primitive_called w op.0 args s n
  unfolding op_called
  without-text op args s n e = ap (λ b. if b then by_text w E args s n (text_body (code_at w.codes (text_number op.0))) else primitive_called w op.0 args s n) e

  refused-by : (op : ℕ) (args : List Value) (s : WorldState) (n : ℕ) (f : Bare) → cost op args s.cells ≤ n → IsRefusedCall op args s.cells w.frames f → primitive_called w op args s n ≡ faulted f s (n - cost op args s.cells)
  unfolding primitive_called
  refused-by op args s n f le h =
      charged_paid s (λ m. answer_made s m (delta op args s.cells w.frames)) (cost op args s.cells) n le
      ∙ ap (λ r. answer_made s (n - cost op args s.cells) r) (refusals-are-told.refused op args s.cells w.frames f h)

  refused-call : (op : Op) (args : List Value) (s : WorldState) (n : ℕ) (f : Bare) → (op.0 ≡ names.APPLY → ⊥) → has_text op.0 ≡ false → cost op.0 args s.cells ≤ n → IsRefusedCall op.0 args s.cells w.frames f
      → applied w E (value.Prim op ∷ args) s n ≡ faulted f s (n - cost op.0 args s.cells)
  refused-call op args s n f other text le h =
      called s (value.Prim op) args n (ap (λ b. if b then Some args else None) (not-apply op.0 other)) ∙ without-text op args s n text ∙ refused-by op.0 args s n f le h

  -- Expressions.

  read-unset : (l : Label) (scope : Place) (s : WorldState) (n : ℕ) (words : List (List ℕ)) → IsUnset s.cells l (suc (length s.cells)) scope → AreWords l (rows_in l.0.library w.frames) words
      → variable_value w l scope s n ≡ faulted (record { kind = kind.UnsetVariable; words = words }) s n
  unfolding variable_value
  read-unset l scope s n words u h =
      ap (λ o. variable_read w l s n o) (found-unset w.globals s.cells l (suc (length s.cells)) scope u)
      ∙ ap (λ ws. faulted (record { kind = kind.UnsetVariable; words = ws }) s n) (words-only l (rows_in l.0.library w.frames) words h)

  template-fault : (t : PlainTemplate) (scope : Place) (s : WorldState) (n : ℕ) (bs : Binds) (f : Bare) → gathered s.cells scope t [] ≡ Some bs → cost_of bs t ≡ Err f → instanced t scope s n ≡ faulted f s n
  unfolding instanced
  template-fault t scope s n bs f g e = ap (λ o. instance_with t s n o) g ∙ ap (λ r. instance_paid s n (instance_of bs t s.cells) r) e

  -- `syntax-case`

  one-unit : (s : WorldState) (n : ℕ) (go : ℕ → Outcome) → charged 1 s (suc n) go ≡ go n
  one-unit s n go = charged_paid s go 1 (suc n) (omega arith) ∙ ap go (omega arith)

  module _ (v : Value) where
    tried-one : (p : PlainPattern) (output : PlainCore) (cs : PlainClauses) (scope : Place) (s : WorldState) (n : ℕ)
        → tried w E (clause p output cs) v scope s (suc n) ≡ on_match w E (tried w E cs v scope) (output_given w E output scope) s n (match_of w.frames s.cells p v)
    unfolding tried
    tried-one p output cs scope s n = one-unit s n (λ m. on_match w E (tried w E cs v scope) (output_given w E output scope) s m (match_of w.frames s.cells p v))

    tried-fended : (p : PlainPattern) (fender output : PlainCore) (cs : PlainClauses) (scope : Place) (s : WorldState) (n : ℕ)
        → tried w E (fended p fender output cs) v scope s (suc n) ≡ on_match w E (tried w E cs v scope) (fender_asked w E fender (clause_before w E output cs v scope)) s n (match_of w.frames s.cells p v)
    unfolding tried
    tried-fended p fender output cs scope s n = one-unit s n (λ m. on_match w E (tried w E cs v scope) (fender_asked w E fender (clause_before w E output cs v scope)) s m (match_of w.frames s.cells p v))

    tried-none : (scope : Place) (s : WorldState) (n : ℕ) → tried w E no_clause v scope s n ≡ faulted no_match s n
    unfolding tried
    tried-none scope s n = refl

    passed : (scope : Place) (cs : PlainClauses) (s : WorldState) (n : ℕ) (t : WorldState) (m : ℕ) → ArePassed w v scope cs s n t m → tried w E cs v scope s n ≡ faulted no_match t m
    passed scope _ _ _ _ _ (c.none_is_left {s} {n}) = tried-none scope s n
    passed scope _ _ _ _ _ (c.no_match {p} {output} {cs} {s} {t} {n} {m} e rest) =
        tried-one p output cs scope s n ∙ ap (λ o. on_match w E (tried w E cs v scope) (output_given w E output scope) s n o) e ∙ passed scope cs s n t m rest
    passed scope _ _ _ _ _ (c.no_match_before {p} {fender} {output} {cs} {s} {t} {n} {m} e rest) =
        tried-fended p fender output cs scope s n ∙ ap (λ o. on_match w E (tried w E cs v scope) (fender_asked w E fender (clause_before w E output cs v scope)) s n o) e ∙ passed scope cs s n t m rest
    passed scope _ _ _ _ _ (c.false_fender {p} {fender} {output} {cs} {f} {s} {r} {t} {n} {k} {m} e le false-is rest) =
        tried-fended p fender output cs scope s n
        ∙ ap (λ o. on_match w E (tried w E cs v scope) (fender_asked w E fender (clause_before w E output cs v scope)) s n o) e
        ∙ charged_paid s (fender_asked w E fender (clause_before w E output cs v scope) f s) f.taken n le
        ∙ ap (λ o. then_do o (fender_passed w E (clause_before w E output cs v scope) (next_place s))) false-is
        ∙ passed scope cs r k t m rest

pub causes-are-faults : CausesAreFaults
causes-are-faults = record {
  fuel = λ w e scope s. eval_of_is w e scope s 0;
  variables = λ w l scope s n words u h. eval_of_is w (variable l) scope s (suc n) ∙ read-unset w l scope s n words u h;
  assignments = λ w l e scope s n words h. eval_of_is w (assignment l e) scope s (suc n) ∙ ap (λ ws. faulted (record { kind = kind.SetAtExpansion; words = ws }) s n) (words-only l (rows_in l.0.library w.frames) words h);
  no_procedures = λ w v args s n h. no-procedure w v args s n h;
  procedures = λ w number parent code args s n e h. no-case w number parent code args s n e h;
  applications = λ w args s n f h. bad-apply w args s n f h;
  primitives = λ w op args s n f other text le h. refused-call w op args s n f other text le h;
  templates = λ w t span scope s n bs f g e. eval_of_is w (instance t span) scope s (suc n) ∙ template-fault w t scope s n bs f g e;
  clauses = λ w e cs span scope v s r t n k m d h. eval_of_is w (matching e cs span) scope s (suc n) ∙ ap (λ o. then_do o (λ u. tried w (eval_of w) cs u scope)) d ∙ passed w v scope cs r k t m h;
}
