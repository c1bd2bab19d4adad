-- What an evaluation comes to keeps an invariant of its code, of its cells and of what it reads.
use Rattle.std.proofs.Common.{◌≤◌, ◌+◌, ◌-◌, ℕ, zero, suc, Bool, true, false, List, [], ◌∷◌, ◌++◌, length, drop, Option, None, Some, Result, Ok, Err, nat_lt, arith, if◌then◌else◌}
use Rattle.base_data.proofs.ElementLemmas.{each-append, each-and, each-dropped}
use Rattle.base_data.specs.Datum.{PlainDatum}
use Rattle.base_data.specs.declared.atom.Atom.TheVariants as a
use Rattle.base_data.specs.declared.fault.Bare.{Bare}
use Rattle.base_data.specs.declared.library.LibName.{LibName}
use Rattle.base_data.specs.declared.name.CodeNo.{CodeNo}
use Rattle.base_data.specs.declared.name.Label.{Label}
use Rattle.base_data.specs.declared.op.Op.{Op}
use Rattle.base_region.specs.declared.region.Place.{Place}
use Rattle.core_language.specs.Core.{PlainCore, quoted, variable, primitive, one_armed, two_armed, assignment, sequence, procedure, letrec, call, instance, matching}
use Rattle.core_language.specs.Core.{PlainCores, none, more, PlainInits, no_init, init, PlainCases, no_case, case, PlainClauses, no_clause, clause, fended, PlainCode}
use Rattle.core_language.specs.Template.{PlainTemplate}
use Rattle.core_language.specs.declared.formals.Formals.{Formals}
use Rattle.core_language.specs.declared.record.Line.{Line}
use Rattle.core_language.specs.declared.record.Line.TheVariants as line
use Rattle.eval_value.specs.FromDatum.{stored, pairs_stored}
use Rattle.eval_value.specs.ToSyntax.{fuel_spent}
use Rattle.eval_value.specs.declared.value.Value.{Value}
use Rattle.eval_value.specs.declared.value.Value.TheVariants as value
use Rattle.eval_value.specs.declared.cell.Cell.{Cell}
use Rattle.eval_value.specs.declared.cell.Cell.TheVariants as cell
use Rattle.eval_pattern.specs.Matched.{nothing}
use Rattle.eval_pattern.specs.declared.columns.PatternBinds.{PatternBinds}
use Rattle.eval_prims.specs.Answers.{PrimAnswer}
use Rattle.eval_prims.specs.Chains.{list_elements}
use Rattle.eval_prims.specs.Cost.{cost}
use Rattle.eval_prims.specs.Delta.{delta}
use Rattle.eval_code.specs.Codes.{code_at}
use Rattle.eval_code.specs.Instances.{Binds, match_of, instance_of, cost_of, instance_made, instance_paid, instance_with, instanced, gathered}
use Rattle.eval_code.specs.Lines.{lines_from}
use Rattle.eval_code.specs.Meaning.{Evaluator, answer_made, primitive_called, variable_read, variable_value, quoted_value, by_case, by_code, procedure_called, text_value_called, by_text, op_called, value_called, first_called, applied, operands, in_sequence, one_arm, two_arms, in_turn, at_once, by_letrec, fender_passed, output_given, fender_asked, on_match, tried, expressed, unrolled, evaluates, eval_of}
use Rattle.eval_code.specs.Procedures.{first_case, bound, bindings, has_text, text_number, first_body, text_body, truth_of}
use Rattle.eval_code.specs.Quoted.{datum_cost}
use Rattle.eval_code.specs.Setting.{PlainSetting}
use Rattle.eval_code.specs.Spread.{CallBy, apply_args, before_last, parted, with_elements, with_front, on_parts, spread_once, spread_on, spread_to, spread}
use Rattle.eval_code.specs.State.{WorldState, Outcome, done, faulted, unfit, Go, then_do, charged, made, store, next_place, with_cell}
use Rattle.eval_code.specs.Trying.{clause_before}
use Rattle.eval_code.specs.Variables.{found, unset, assigned, all_assigned}
use Rattle.law_invariants.specs.Holds.{ValueHolds, ValuesHold, VariableHolds, CellHolds, CellsHold, TemplateHolds, CoreHolds, CoresHold, InitsHold, CasesHold, ClausesHold, CodeHolds, LinesHold}
use Rattle.law_invariants.specs.Outcome.{SettingHolds, StateHolds, OutcomeHolds}
use Rattle.law_invariants.proofs.Calls.{AnswerOr, delta_ok}
use Rattle.law_invariants.specs.Invariant.{Invariant, OptionHolds}
use Rattle.law_invariants.proofs.Instances.{GatheredOr, gathered_hold, instance_holds}
use Rattle.law_invariants.proofs.Matches.{AllBound, FoundOr, matched_holds}
use Rattle.law_invariants.proofs.Reading.{ValuesOr, elements_hold}
use Rattle.law_invariants.proofs.Storing.{StoredHolds, pairs_hold, stored_holds, performed_holds}
use Rattle.law_invariants.proofs.Variables.{EntriesHold, FoundValue, found_holds, unset_holds, assigned_holds, all_assigned_hold, code_holds}
use Rattle.law_invariants.proofs.Wider.{value_wider, values_wider, template_wider, globals_wider}
use Rattle.law_invariants.specs.Closed.{IsClosed, Wider, Rises}

module _ (own : LibName) (m : ℕ) (I : ℕ → Invariant) (rises : Rises own m I) where
  abbrev S : ℕ → WorldState → Type 0
  S r s = StateHolds own I r s

  abbrev O : ℕ → Outcome → Type 0
  O r o = OutcomeHolds own I r o

  -- a value of a state
  abbrev V : WorldState → Value → Type 0
  V s v = ValueHolds (I s.names.number) v

  abbrev Vs : WorldState → List Value → Type 0
  Vs s vs = ValuesHold (I s.names.number) vs

  rise : (r n : ℕ) → r ≤ n → Wider (I r) (I n)
  rise r n le = rises.later r n le

  pub values_rise : (r n : ℕ) (vs : List Value) → r ≤ n → ValuesHold (I r) vs → ValuesHold (I n) vs
  values_rise r n vs le h = values_wider (I r) (I n) (rise r n le) vs h

  closed : (s : WorldState) → IsClosed (I s.names.number)
  closed s = rises.closed s.names.number

  -- States and outcomes.

  pub state-less : (r n : ℕ) (s : WorldState) → r ≤ n → S n s → S r s
  state-less r n s le h = record { up = omega (arith, le, h.up); library = h.library; cells = h.cells }

  pub state-self : (r : ℕ) (s : WorldState) → S r s → S s.names.number s
  state-self r s h = record { up = omega arith; library = h.library; cells = h.cells }

  pub outcome-less : (r n : ℕ) (o : Outcome) → r ≤ n → O n o → O r o
  outcome-less r n (done v s k) le h = (state-less r n s le h.0, h.1)
  outcome-less r n (faulted f s k) le h = state-less r n s le h
  outcome-less r n unfit le h = tt

  stored-state : (r : ℕ) (s : WorldState) (cells : List Cell) → S r s → CellsHold (I s.names.number) cells → S r (store cells s.names)
  stored-state r s cells h k = record { up = h.up; library = h.library; cells = k }

  one-cell : (r : ℕ) (s : WorldState) (c : Cell) → S r s → CellHolds (I s.names.number) c → S r (with_cell c s)
  one-cell r s c h k = stored-state r s (s.cells ++ c ∷ []) h (each-and (CellHolds (I s.names.number)) s.cells c h.cells k)

  pub holds-then : (r : ℕ) (o : Outcome) (g : Go) → O r o → ((v : Value) (t : WorldState) (n : ℕ) → S r t → V t v → O t.names.number (g v t n)) → O r (then_do o g)
  holds-then r (done v t n) g h k = outcome-less r t.names.number (g v t n) h.0.up (k v t n h.0 h.1)
  holds-then r (faulted f t n) g h k = h
  holds-then r unfit g h k = tt

  holds-if : (r : ℕ) (b : Bool) (o p : Outcome) → O r o → O r p → O r (if b then o else p)
  holds-if r true o p h k = h
  holds-if r false o p h k = k

  holds-charged : (r : ℕ) (s : WorldState) (count n : ℕ) (g : ℕ → Outcome) → S r s → ((left : ℕ) → O r (g left)) → O r (charged count s n g)
  holds-charged r s count n g h k = holds-if r (nat_lt n count) (faulted fuel_spent s n) (g (n - count)) h (k (n - count))

  -- What needs no setting.

  holds-answer : (s : WorldState) (n : ℕ) (x : PrimAnswer) → S m s → AnswerOr (I s.names.number) x → O s.names.number (answer_made s n x)
  holds-answer s n (Ok x) h k =
      let p = performed_holds own m I rises x s.names s.cells h.library h.up h.cells k in
      (record { up = omega arith; library = h.library; cells = p.1 }, p.0)
  holds-answer s n (Err f) h k = state-self m s h

  holds-quoted : (d : PlainDatum) (s : WorldState) (n : ℕ) → (I s.names.number).constants d → S s.names.number s → O s.names.number (quoted_value d s n)
  unfolding quoted_value
  holds-quoted d s n k h =
      let p = stored_holds (I s.names.number) (closed s) d s.cells ((closed s).constants d k) h.cells in
      holds-charged s.names.number s (datum_cost d) n (made s.names (stored d s.cells)) h (λ left. (stored-state s.names.number s (stored d s.cells).1 h p.1, p.0))

  abbrev MadeOr : ℕ → Result (Value × List Cell) Bare → Type 0
  MadeOr n (Ok p) = StoredHolds (I n) p
  MadeOr n (Err f) = Unit {0}

  holds-made : (s : WorldState) (r : Result (Value × List Cell) Bare) → S s.names.number s → MadeOr s.names.number r → (n : ℕ) → O s.names.number (instance_made s r n)
  holds-made s (Ok p) h k n = (stored-state s.names.number s p.1 h k.1, k.0)
  holds-made s (Err f) h k n = h

  holds-paid : (s : WorldState) (n : ℕ) (r : Result (Value × List Cell) Bare) (c : Result ℕ Bare) → S s.names.number s → MadeOr s.names.number r → O s.names.number (instance_paid s n r c)
  holds-paid s n r (Ok count) h k = holds-charged s.names.number s count n (instance_made s r) h (holds-made s r h k)
  holds-paid s n r (Err f) h k = h

  by-instance : (s : WorldState) (bs : Binds) (t : PlainTemplate) → S s.names.number s → AllBound (I s.names.number) bs → TemplateHolds (I s.names.number) t → MadeOr s.names.number (instance_of bs t s.cells)
  by-instance s bs t h b k = instance_holds (I s.names.number) (closed s) bs b t k [] s.cells h.cells

  holds-with : (t : PlainTemplate) (s : WorldState) (n : ℕ) (o : Option Binds) → S s.names.number s → TemplateHolds (I s.names.number) t → GatheredOr (I s.names.number) o → O s.names.number (instance_with t s n o)
  holds-with t s n None h k b = tt
  holds-with t s n (Some bs) h k b = holds-paid s n (instance_of bs t s.cells) (cost_of bs t) h (by-instance s bs t h b k)

  holds-instanced : (t : PlainTemplate) (scope : Place) (s : WorldState) (n : ℕ) → S s.names.number s → TemplateHolds (I s.names.number) t → O s.names.number (instanced t scope s n)
  unfolding instanced
  holds-instanced t scope s n h k = holds-with t s n (gathered s.cells scope t []) h k (gathered_hold (I s.names.number) s.cells h.cells scope t [] tt)

  -- Calls.

  parted-holds : (n : ℕ) (vs : List Value) → ValuesHold (I n) vs → OptionHolds (λ (p : List Value × Value). ValuesHold (I n) p.0 × ValueHolds (I n) p.1) (parted vs)
  parted-holds n [] h = tt
  parted-holds n (x ∷ vs) h = by_last (parted vs) (parted-holds n vs h.1)
    where
      by_last : (o : Option (List Value × Value)) → OptionHolds (λ (p : List Value × Value). ValuesHold (I n) p.0 × ValueHolds (I n) p.1) o → ValuesHold (I n) (before_last x o).0 × ValueHolds (I n) (before_last x o).1
      by_last None k = (tt, h.0)
      by_last (Some p) k = ((h.0, k.0), k.1)

  apply-holds : (n : ℕ) (vs : List Value) → ValuesHold (I n) vs → OptionHolds (ValuesHold (I n)) (apply_args vs)
  apply-holds n [] h = tt
  apply-holds n (value.Prim op ∷ args) h = by_op (_)
    where
      by_op : (b : Bool) → OptionHolds (ValuesHold (I n)) (if b then Some args else None)
      by_op true = h.1
      by_op false = tt
  apply-holds n (value.Unspecified ∷ args) h = tt
  apply-holds n (value.Atom x ∷ args) h = tt
  apply-holds n (value.Symbol x ∷ args) h = tt
  apply-holds n (value.Pair p ∷ args) h = tt
  apply-holds n (value.Vector p ∷ args) h = tt
  apply-holds n (value.Str p ∷ args) h = tt
  apply-holds n (value.Closure c p ∷ args) h = tt
  apply-holds n (value.Syn t ∷ args) h = tt
  apply-holds n (value.Transformer p ∷ args) h = tt

  module _ (s : WorldState) (h : S s.names.number s) (g : CallBy) (holds : (vs : List Value) (n : ℕ) → Vs s vs → O s.names.number (g vs n)) where
    holds-elements : (front : List Value) (n : ℕ) (o : Option (List Value)) → Vs s front → ValuesOr (I s.names.number) o → O s.names.number (with_elements front s g n o)
    holds-elements front n None k j = h
    holds-elements front n (Some xs) k j = holds-charged s.names.number s (length xs) n (g (front ++ xs)) h (λ left. holds (front ++ xs) left (each-append (ValueHolds (I s.names.number)) front xs k j))

    holds-front : (front : List Value) (last : Value) (n : ℕ) → Vs s front → O s.names.number (with_front front last s g n)
    holds-front [] last n k = h
    holds-front (x ∷ xs) last n k = holds-elements (x ∷ xs) n (list_elements s.cells last) k (elements_hold (I s.names.number) s.cells h.cells last)

    holds-parts : (n : ℕ) (o : Option (List Value × Value)) → OptionHolds (λ (p : List Value × Value). Vs s p.0 × V s p.1) o → O s.names.number (on_parts s g n o)
    holds-parts n None k = h
    holds-parts n (Some p) k = holds-front p.0 p.1 n k.0

    holds-once : (args : List Value) (n : ℕ) → Vs s args → O s.names.number (spread_once args s g n)
    unfolding spread_once
    holds-once args n k = holds-parts n (parted args) (parted-holds s.names.number args k)

  module _ (s : WorldState) (h : S s.names.number s) (g : CallBy) (holds : (vs : List Value) (n : ℕ) → Vs s vs → O s.names.number (g vs n)) where
    holds-to : (turns : ℕ) (vs : List Value) (n : ℕ) → Vs s vs → O s.names.number (spread_to turns s g vs n)
    holds-to zero vs n k = tt
    holds-to (suc turns) vs n k = by_args (holds-to turns) (apply_args vs) (apply-holds s.names.number vs k)
      where
        by_args : ((ws : List Value) (left : ℕ) → Vs s ws → O s.names.number (spread_to turns s g ws left)) → (o : Option (List Value)) → OptionHolds (ValuesHold (I s.names.number)) o → O s.names.number (spread_on s (spread_to turns s g) (g vs) n o)
        by_args again None j = holds vs n k
        by_args again (Some args) j = holds-once s h (spread_to turns s g) again args n j

    holds-spread : (vs : List Value) (n : ℕ) → Vs s vs → O s.names.number (spread s g vs n)
    unfolding spread
    holds-spread vs n k = holds-to (suc (n + length vs)) vs n k

  -- Variables of a call.

  bound-holds : (n : ℕ) (ls : List Label) (vs : List Value) → ValuesHold (I n) vs → EntriesHold (I n) (bound ls vs)
  bound-holds n [] vs h = tt
  bound-holds n (l ∷ ls) [] h = tt
  bound-holds n (l ∷ ls) (v ∷ vs) h = (h.0, bound-holds n ls vs h.1)

  bindings-hold : (n : ℕ) (o : Option Label) (ls : List Label) (vs : List Value) (cells : List Cell) → ValuesHold (I n) vs → CellsHold (I n) cells
      → EntriesHold (I n) (bindings o ls vs cells).0 × CellsHold (I n) (bindings o ls vs cells).1
  bindings-hold n None ls vs cells h k = (bound-holds n ls vs h, k)
  bindings-hold n (Some l) ls vs cells h k =
      let p = pairs_hold (I n) (drop (length ls) vs) (value.Atom a.Nil, cells) (each-dropped (ValueHolds (I n)) (length ls) vs h) ((rises.closed n).nil, k) in
      (each-and (λ (e : Label × Option Value). VariableHolds (I n) e.1) (bound ls vs) (l, Some (pairs_stored (drop (length ls) vs) (value.Atom a.Nil, cells)).0) (bound-holds n ls vs h) p.0, p.1)

  case-holds : (Q : Invariant) (cs : PlainCases) (n : ℕ) → CasesHold Q cs → OptionHolds (λ (c : Formals × PlainCore). CoreHolds Q c.1) (first_case cs n)
  case-holds Q no_case n h = tt
  case-holds Q (case f c cs) n h = by_test (_) (case-holds Q cs n h.1)
    where
      by_test : (b : Bool) → OptionHolds (λ (c : Formals × PlainCore). CoreHolds Q c.1) (first_case cs n) → OptionHolds (λ (c : Formals × PlainCore). CoreHolds Q c.1) (if b then Some (f, c) else first_case cs n)
      by_test true k = h.0
      by_test false k = k

  body-holds : (Q : Invariant) (o : Option PlainCode) → OptionHolds (CodeHolds Q) o → OptionHolds (CoreHolds Q) (text_body o)
  body-holds Q None h = tt
  body-holds Q (Some x) h = by_cases x.cases h
    where
      by_cases : (cs : PlainCases) → CasesHold Q cs → OptionHolds (CoreHolds Q) (first_body cs)
      by_cases no_case k = tt
      by_cases (case f c cs) k = k.0

  -- In a setting of which it holds before this name is taken.

  module _ (w : PlainSetting) (setting : SettingHolds (I m) w) where
    holds-primitive : (op : ℕ) (args : List Value) (s : WorldState) (n : ℕ) → S m s → Vs s args → O s.names.number (primitive_called w op args s n)
    unfolding primitive_called
    holds-primitive op args s n h k =
        holds-charged s.names.number s (cost op args s.cells) n (λ left. answer_made s left (delta op args s.cells w.frames)) (state-self m s h)
        (λ left. holds-answer s left (delta op args s.cells w.frames) h (delta_ok (I s.names.number) (closed s) s.cells h.cells op args w.frames k))

    holds-read : (l : Label) (s : WorldState) (n : ℕ) (o : Option (Option Value)) → S s.names.number s → FoundValue (I s.names.number) o → O s.names.number (variable_read w l s n o)
    holds-read l s n None h k = tt
    holds-read l s n (Some None) h k = h
    holds-read l s n (Some (Some v)) h k = (h, k)

    holds-variable : (l : Label) (scope : Place) (s : WorldState) (n : ℕ) → S m s → O s.names.number (variable_value w l scope s n)
    unfolding variable_value
    holds-variable l scope s n h =
        holds-read l s n (found (suc (length s.cells)) w.globals s.cells l (Some scope)) (state-self m s h)
        (found_holds (I s.names.number) s.cells h.cells w.globals (globals_wider (I m) (I s.names.number) (rise m s.names.number h.up) w.globals setting.globals) (suc (length s.cells)) l (Some scope))

    abbrev pub Always : Evaluator → Type 0
    Always E = (c : PlainCore) (scope : Place) (s : WorldState) (n : ℕ) → CoreHolds (I m) c → S m s → O s.names.number (E c scope s n)

    module _ (E : Evaluator) (always : Always E) where
      holds-case : (parent : Place) (args : List Value) (s : WorldState) (n : ℕ) (x : Option (Formals × PlainCore)) → S m s → Vs s args → OptionHolds (λ (c : Formals × PlainCore). CoreHolds (I m) c.1) x
          → O s.names.number (by_case w E parent args s n x)
      holds-case parent args s n None h k j = state-self m s h
      holds-case parent args s n (Some x) h k j =
          let p = bindings x.0.rest x.0.required args s.cells in
          let b = bindings-hold s.names.number x.0.rest x.0.required args s.cells k h.cells in
          always x.1 (record { 0 = length p.1 }) (store (p.1 ++ cell.Scope p.0 (Some parent) ∷ []) s.names) n j
          (stored-state m s (p.1 ++ cell.Scope p.0 (Some parent) ∷ []) h (each-and (CellHolds (I s.names.number)) p.1 (cell.Scope p.0 (Some parent)) b.1 b.0))

      holds-code : (parent : Place) (args : List Value) (s : WorldState) (n : ℕ) (x : Option PlainCode) → S m s → Vs s args → OptionHolds (CodeHolds (I m)) x → O s.names.number (by_code w E parent args s n x)
      holds-code parent args s n None h k j = tt
      holds-code parent args s n (Some x) h k j = holds-case parent args s n (first_case x.cases (length args)) h k (case-holds (I m) x.cases (length args) j)

      holds-procedure : (number : CodeNo) (parent : Place) (args : List Value) (s : WorldState) (n : ℕ) → S m s → Vs s args → O s.names.number (procedure_called w E number parent args s n)
      unfolding procedure_called
      holds-procedure number parent args s n h k = holds-code parent args s n (code_at w.codes number) h k (code_holds (I m) w.codes number setting.codes)

      holds-text_value : (args : List Value) (v : Value) (s : WorldState) (n : ℕ) → S m s → Vs s args → O s.names.number (text_value_called w E args v s n)
      holds-text_value args (value.Closure number parent) s n h k = holds-procedure number parent args s n h k
      holds-text_value args value.Unspecified s n h k = tt
      holds-text_value args (value.Atom x) s n h k = tt
      holds-text_value args (value.Symbol x) s n h k = tt
      holds-text_value args (value.Pair p) s n h k = tt
      holds-text_value args (value.Vector p) s n h k = tt
      holds-text_value args (value.Str p) s n h k = tt
      holds-text_value args (value.Prim op) s n h k = tt
      holds-text_value args (value.Syn t) s n h k = tt
      holds-text_value args (value.Transformer p) s n h k = tt

      -- with what was met in a state before
      from : (s t : WorldState) → S m s → S s.names.number t → S m t
      from s t h k = state-less m s.names.number t h.up k

      holds-text : (args : List Value) (s : WorldState) (n : ℕ) (x : Option PlainCore) → S m s → Vs s args → OptionHolds (CoreHolds (I m)) x → O s.names.number (by_text w E args s n x)
      holds-text args s n None h k j = tt
      holds-text args s n (Some body) h k j =
          holds-then s.names.number (E body (next_place s) (with_cell (cell.Scope [] None) s) n) (text_value_called w E args) (always body (next_place s) (with_cell (cell.Scope [] None) s) n j (one-cell m s (cell.Scope [] None) h tt))
          (λ v t left i x. holds-text_value args v t left (from s t h i) (values_rise s.names.number t.names.number args i.up k))

      holds-op : (op : Op) (args : List Value) (s : WorldState) (n : ℕ) → S m s → Vs s args → O s.names.number (op_called w E op args s n)
      unfolding op_called
      holds-op op args s n h k =
          holds-if s.names.number (has_text op.0) _ _
          (holds-text args s n (text_body (code_at w.codes (text_number op.0))) h k (body-holds (I m) (code_at w.codes (text_number op.0)) (code_holds (I m) w.codes (text_number op.0) setting.codes)))
          (holds-primitive op.0 args s n h k)

      holds-value : (f : Value) (args : List Value) (s : WorldState) (n : ℕ) → S m s → Vs s args → O s.names.number (value_called w E f args s n)
      holds-value (value.Closure number parent) args s n h k = holds-procedure number parent args s n h k
      holds-value (value.Prim op) args s n h k = holds-op op args s n h k
      holds-value value.Unspecified args s n h k = state-self m s h
      holds-value (value.Atom x) args s n h k = state-self m s h
      holds-value (value.Symbol x) args s n h k = state-self m s h
      holds-value (value.Pair p) args s n h k = state-self m s h
      holds-value (value.Vector p) args s n h k = state-self m s h
      holds-value (value.Str p) args s n h k = state-self m s h
      holds-value (value.Syn t) args s n h k = state-self m s h
      holds-value (value.Transformer p) args s n h k = state-self m s h

      holds-first : (s : WorldState) → S m s → (vs : List Value) (n : ℕ) → Vs s vs → O s.names.number (first_called w E s vs n)
      unfolding first_called
      holds-first s h [] n k = tt
      holds-first s h (f ∷ args) n k = holds-value f args s n h k.1

      pub holds-applied : (vs : List Value) (s : WorldState) (n : ℕ) → S m s → Vs s vs → O s.names.number (applied w E vs s n)
      unfolding applied
      holds-applied vs s n h k = holds-spread s (state-self m s h) (first_called w E s) (holds-first s h) vs n k

      holds-operands : (cs : PlainCores) (scope : Place) (vs : List Value) (s : WorldState) (n : ℕ) → CoresHold (I m) cs → S m s → Vs s vs → O s.names.number (operands w E cs scope vs s n)
      holds-operands none scope vs s n c h k = holds-applied vs s n h k
      holds-operands (more x cs) scope vs s n c h k =
          holds-then s.names.number (E x scope s n) (λ v. operands w E cs scope (vs ++ v ∷ [])) (always x scope s n c.0 h)
          (λ v t left i j. holds-operands cs scope (vs ++ v ∷ []) t left c.1 (from s t h i) (each-and (ValueHolds (I t.names.number)) vs v (values_rise s.names.number t.names.number vs i.up k) j))

      holds-sequence : (cs : PlainCores) (scope : Place) (s : WorldState) (n : ℕ) → CoresHold (I m) cs → S m s → O s.names.number (in_sequence w E cs scope s n)
      holds-sequence none scope s n c h = tt
      holds-sequence (more x none) scope s n c h = always x scope s n c.0 h
      holds-sequence (more x (more d cs)) scope s n c h =
          holds-then s.names.number (E x scope s n) (λ v. in_sequence w E (more d cs) scope) (always x scope s n c.0 h) (λ v t left i j. holds-sequence (more d cs) scope t left c.1 (from s t h i))

      holds-one_arm : (c : PlainCore) (scope : Place) (v : Value) (s : WorldState) (n : ℕ) → CoreHolds (I m) c → S m s → O s.names.number (one_arm w E c scope v s n)
      holds-one_arm c scope v s n k h = holds-if s.names.number (truth_of v) _ _ (always c scope s n k h) (state-self m s h, tt)

      holds-two_arms : (c d : PlainCore) (scope : Place) (v : Value) (s : WorldState) (n : ℕ) → CoreHolds (I m) c → CoreHolds (I m) d → S m s → O s.names.number (two_arms w E c d scope v s n)
      holds-two_arms c d scope v s n k j h = holds-if s.names.number (truth_of v) _ _ (always c scope s n k h) (always d scope s n j h)

      holds-in_turn : (is : PlainInits) (body : PlainCore) (scope : Place) (s : WorldState) (n : ℕ) → InitsHold (I m) is → CoreHolds (I m) body → S m s → O s.names.number (in_turn w E is body scope s n)
      holds-in_turn no_init body scope s n c b h = always body scope s n b h
      holds-in_turn (init l x is) body scope s n c b h =
          holds-then s.names.number (E x scope s n) (λ v t. in_turn w E is body scope (store (assigned t.cells scope l v) t.names)) (always x scope s n c.0 h)
          (λ v t left i j. holds-in_turn is body scope (store (assigned t.cells scope l v) t.names) left c.1 b
          (stored-state m t (assigned t.cells scope l v) (from s t h i) (assigned_holds (I t.names.number) t.cells scope l v i.cells j)))

      holds-at_once : (is all : PlainInits) (body : PlainCore) (scope : Place) (vs : List Value) (s : WorldState) (n : ℕ) → InitsHold (I m) is → CoreHolds (I m) body → S m s → Vs s vs
          → O s.names.number (at_once w E is (record { variables = all; body = body; scope = scope }) vs s n)
      holds-at_once no_init all body scope vs s n c b h k =
          always body scope (store (all_assigned s.cells scope all vs) s.names) n b (stored-state m s (all_assigned s.cells scope all vs) h (all_assigned_hold (I s.names.number) s.cells scope all vs h.cells k))
      holds-at_once (init l x is) all body scope vs s n c b h k =
          holds-then s.names.number (E x scope s n) (λ v. at_once w E is (record { variables = all; body = body; scope = scope }) (vs ++ v ∷ [])) (always x scope s n c.0 h)
          (λ v t left i j. holds-at_once is all body scope (vs ++ v ∷ []) t left c.1 b (from s t h i) (each-and (ValueHolds (I t.names.number)) vs v (values_rise s.names.number t.names.number vs i.up k) j))

      holds-letrec : (star : Bool) (is : PlainInits) (body : PlainCore) (scope : Place) (s : WorldState) (n : ℕ) → InitsHold (I m) is → CoreHolds (I m) body → S m s
          → O s.names.number (by_letrec w E star (record { variables = is; body = body; scope = next_place s }) (with_cell (cell.Scope (unset is) (Some scope)) s) n)
      holds-letrec true is body scope s n c b h =
          holds-in_turn is body (next_place s) (with_cell (cell.Scope (unset is) (Some scope)) s) n c b (one-cell m s (cell.Scope (unset is) (Some scope)) h (unset_holds (I s.names.number) is))
      holds-letrec false is body scope s n c b h =
          holds-at_once is is body (next_place s) [] (with_cell (cell.Scope (unset is) (Some scope)) s) n c b (one-cell m s (cell.Scope (unset is) (Some scope)) h (unset_holds (I s.names.number) is)) tt

      -- `syntax-case`

      abbrev NextHolds : ℕ → (Place → WorldState → ℕ → Outcome) → Type 0
      NextHolds r g = (scope : Place) (s : WorldState) (n : ℕ) → S r s → O s.names.number (g scope s n)

      holds-output : (output : PlainCore) (scope : Place) (f : PatternBinds) (s : WorldState) (n : ℕ) → CoreHolds (I m) output → S m s → AllBound (I s.names.number) f.binds → O s.names.number (output_given w E output scope f s n)
      holds-output output scope f s n c h b = always output (next_place s) (with_cell (cell.Binds f.binds (Some scope)) s) n c (one-cell m s (cell.Binds f.binds (Some scope)) h b)

      holds-passed : (r : ℕ) (g : Place → WorldState → ℕ → Outcome) → NextHolds r g → (output : PlainCore) (scope inner : Place) (v : Value) (s : WorldState) (n : ℕ) → CoreHolds (I m) output → S m s → S r s
          → O s.names.number (fender_passed w E (record { output = output; others = g scope; scope = scope }) inner v s n)
      holds-passed r g next output scope inner v s n c h k = holds-if s.names.number (truth_of v) _ _ (always output inner s n c h) (next scope s n k)

      holds-asked : (r : ℕ) (g : Place → WorldState → ℕ → Outcome) → NextHolds r g → (fender output : PlainCore) (scope : Place) (f : PatternBinds) (s : WorldState) (n : ℕ) → CoreHolds (I m) fender → CoreHolds (I m) output → S m s → S r s
          → AllBound (I s.names.number) f.binds → O s.names.number (fender_asked w E fender (record { output = output; others = g scope; scope = scope }) f s n)
      holds-asked r g next fender output scope f s n c d h k b =
          holds-then s.names.number (E fender (next_place s) (with_cell (cell.Binds f.binds (Some scope)) s) n) (fender_passed w E (record { output = output; others = g scope; scope = scope }) (next_place s))
          (always fender (next_place s) (with_cell (cell.Binds f.binds (Some scope)) s) n c (one-cell m s (cell.Binds f.binds (Some scope)) h b))
          (λ v t left i j. holds-passed r g next output scope (next_place s) v t left d (from s t h i) (state-less r s.names.number t k.up i))

      holds-match : (r : ℕ) (g : Place → WorldState → ℕ → Outcome) → NextHolds r g → (i : PatternBinds → WorldState → ℕ → Outcome) → ((f : PatternBinds) (s : WorldState) (n : ℕ) → S r s → AllBound (I s.names.number) f.binds → O s.names.number (i f s n))
          → (scope : Place) (s : WorldState) (n : ℕ) (o : Option PatternBinds) → S r s → FoundOr (I s.names.number) o → O s.names.number (on_match w E (g scope) i s n o)
      holds-match r g next i take scope s n None h k = next scope s n h
      holds-match r g next i take scope s n (Some f) h k = holds-charged s.names.number s f.taken n (i f s) (state-self r s h) (λ left. take f s left h k)

      holds-tried : (r : ℕ) (cs : PlainClauses) (v : Value) → m ≤ r → ClausesHold (I m) cs → ValueHolds (I r) v → NextHolds r (tried w E cs v)
      unfolding tried
      holds-tried r no_clause v le c k scope s n h = state-self r s h
      holds-tried r (clause p output cs) v le c k scope s n h =
          let parts = rises.code m p (CoreHolds (I m) output × ClausesHold (I m) cs) c in
          holds-charged s.names.number s 1 n _ (state-self r s h)
          (λ left. holds-match r (tried w E cs v) (holds-tried r cs v le parts.1 k) (output_given w E output scope) (λ f t x i b. holds-output output scope f t x parts.0 (state-less m r t le i) b) scope s left (match_of w.frames s.cells p v) h
          (matched_holds (I s.names.number) (closed s) s.cells h.cells w.frames p v (nothing 0) (value_wider (I r) (I s.names.number) (rise r s.names.number h.up) v k) tt))
      holds-tried r (fended p fender output cs) v le c k scope s n h =
          let parts = rises.code m p (CoreHolds (I m) fender × (CoreHolds (I m) output × ClausesHold (I m) cs)) c in
          holds-charged s.names.number s 1 n _ (state-self r s h)
          (λ left. holds-match r (tried w E cs v) (holds-tried r cs v le parts.1.1 k) (fender_asked w E fender (clause_before w E output cs v scope))
          (λ f t x i b. holds-asked r (tried w E cs v) (holds-tried r cs v le parts.1.1 k) fender output scope f t x parts.0 parts.1.0 (state-less m r t le i) i b) scope s left (match_of w.frames s.cells p v) h
          (matched_holds (I s.names.number) (closed s) s.cells h.cells w.frames p v (nothing 0) (value_wider (I r) (I s.names.number) (rise r s.names.number h.up) v k) tt))

      -- Expressions.

      holds-expressed : (c : PlainCore) (scope : Place) (s : WorldState) (n : ℕ) → CoreHolds (I m) c → S m s → O s.names.number (expressed w E c scope s n)
      holds-expressed (quoted d) scope s n k h = holds-quoted d s n ((rise m s.names.number h.up).constants d k) (state-self m s h)
      holds-expressed (variable l) scope s n k h = holds-variable l scope s n h
      holds-expressed (primitive op) scope s n k h = (state-self m s h, tt)
      holds-expressed (one_armed c d) scope s n k h =
          holds-then s.names.number (E c scope s n) (one_arm w E d scope) (always c scope s n k.0 h) (λ v t left i j. holds-one_arm d scope v t left k.1 (from s t h i))
      holds-expressed (two_armed c d e) scope s n k h =
          holds-then s.names.number (E c scope s n) (two_arms w E d e scope) (always c scope s n k.0 h) (λ v t left i j. holds-two_arms d e scope v t left k.1.0 k.1.1 (from s t h i))
      holds-expressed (assignment l c) scope s n k h = state-self m s h
      holds-expressed (sequence cs) scope s n k h = holds-sequence cs scope s n k h
      holds-expressed (procedure number cs plain) scope s n k h = (state-self m s h, tt)
      holds-expressed (letrec star is c) scope s n k h = holds-letrec star is c scope s n k.0 k.1 h
      holds-expressed (call c cs) scope s n k h =
          holds-then s.names.number (E c scope s n) (λ f. operands w E cs scope (f ∷ [])) (always c scope s n k.0 h) (λ f t left i j. holds-operands cs scope (f ∷ []) t left k.1 (from s t h i) (j, tt))
      holds-expressed (instance t sp) scope s n k h = holds-instanced t scope s n (state-self m s h) (template_wider (I m) (I s.names.number) (rise m s.names.number h.up) t (rises.template m t (TemplateHolds (I m) t) k))
      holds-expressed (matching c cs sp) scope s n k h =
          holds-then s.names.number (E c scope s n) (λ v. tried w E cs v scope) (always c scope s n k.0 h)
          (λ v t left i j. holds-tried t.names.number cs v (omega (arith, h.up, i.up)) k.1 j scope t left (state-self s.names.number t i))

      holds-unrolled : Always (unrolled w E)
      holds-unrolled c scope s zero k h = state-self m s h
      holds-unrolled c scope s (suc n) k h = holds-expressed c scope s n k h

    holds-evaluates : (depth : ℕ) → Always (evaluates w depth)
    unfolding evaluates
    holds-evaluates zero c scope s n k h = state-self m s h
    holds-evaluates (suc depth) c scope s n k h = holds-unrolled (evaluates w depth) (holds-evaluates depth) c scope s n k h

    pub holds-eval : Always (eval_of w)
    unfolding eval_of
    holds-eval c scope s n k h = holds-evaluates n c scope s n k h

    pub holds-call : (vs : List Value) (s : WorldState) (n : ℕ) → S m s → Vs s vs → O s.names.number (applied w (eval_of w) vs s n)
    holds-call vs s n h k = holds-applied (eval_of w) holds-eval vs s n h k

    pub holds-lines : (ls : List Line) (scope : Place) (s : WorldState) (n : ℕ) → LinesHold (I m) ls → S m s → O s.names.number (lines_from (eval_of w) ls scope s n)
    holds-lines [] scope s n k h = (state-self m s h, tt)
    holds-lines (line.Define l c ∷ ls) scope s n k h =
        holds-then s.names.number (eval_of w c scope s n) (λ v t. lines_from (eval_of w) ls scope (store (assigned t.cells scope l v) t.names)) (holds-eval c scope s n k.0 h)
        (λ v t left i j. holds-lines ls scope (store (assigned t.cells scope l v) t.names) left k.1
        (stored-state m t (assigned t.cells scope l v) (state-less m s.names.number t h.up i) (assigned_holds (I t.names.number) t.cells scope l v i.cells j)))
    holds-lines (line.Expr c ∷ ls) scope s n k h =
        holds-then s.names.number (eval_of w c scope s n) (λ v. lines_from (eval_of w) ls scope) (holds-eval c scope s n k.0 h) (λ v t left i j. holds-lines ls scope t left k.1 (state-less m s.names.number t h.up i))
