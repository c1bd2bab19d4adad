-- An evaluation changes no cell that was there and gives no name free: it only adds cells, and gives values to the variables of
-- cells that it added.
use Rattle.std.proofs.Common.{◌≡◌, ◌≤◌, ◌-◌, ◌+◌, ℕ, zero, suc, List, [], ◌∷◌, ◌++◌, Option, Some, None, Bool, true, false, Result, Ok, Err, length, take, drop, refl, ap, ◌∙◌, if◌then◌else◌, nat_lt, arith, slice_get, slice_set}
use Rattle.base_data.specs.Datum.{PlainDatum}
use Rattle.base_data.specs.Gives.{◌>>=◌}
use Rattle.base_data.specs.Named.{Named}
use Rattle.base_data.specs.declared.atom.Atom.TheVariants as a
use Rattle.base_data.specs.declared.fault.Bare.{Bare}
use Rattle.base_data.specs.declared.name.CodeNo.{CodeNo}
use Rattle.base_data.specs.declared.name.Label.{Label}
use Rattle.base_data.specs.declared.op.Op.{Op}
use Rattle.base_region.specs.declared.region.Place.{Place}
use Rattle.core_language.specs.Core.{PlainCore, quoted, variable, primitive, one_armed, two_armed, assignment, sequence, procedure, letrec, call, instance, matching}
use Rattle.core_language.specs.Core.{PlainCores, none, more, PlainInits, no_init, init, PlainClauses, no_clause, clause, fended, PlainCode}
use Rattle.core_language.specs.Template as template
use Rattle.core_language.specs.Template.{PlainTemplate, PlainItems}
use Rattle.core_language.specs.declared.formals.Formals.{Formals}
use Rattle.core_language.specs.declared.record.Line.{Line}
use Rattle.core_language.specs.declared.record.Line.TheVariants as line
use Rattle.eval_value.specs.FromDatum.{Keeps, stored, pairs_stored, vector_stored}
use Rattle.eval_value.specs.ToSyntax.{fuel_spent}
use Rattle.eval_value.specs.declared.value.Value.{Value}
use Rattle.eval_value.specs.declared.value.Value.TheVariants as value
use Rattle.eval_value.specs.declared.cell.Cell.{Cell}
use Rattle.eval_value.specs.declared.cell.Cell.TheVariants as cell
use Rattle.eval_value.proofs.Stored.{keeps_refl, keeps_then, keeps_added, stored_keeps, pairs_keep}
use Rattle.eval_pattern.specs.declared.columns.PatternBinds.{PatternBinds}
use Rattle.eval_prims.specs.Copied.{datum_in}
use Rattle.eval_prims.specs.Answers.{PrimAnswer}
use Rattle.eval_prims.specs.Chains.{list_elements}
use Rattle.eval_prims.specs.Cost.{cost}
use Rattle.eval_prims.specs.Delta.{delta}
use Rattle.eval_prims.specs.Perform.{performed, temporaries}
use Rattle.eval_prims.specs.declared.made.PrimResult.{PrimResult}
use Rattle.eval_prims.specs.declared.made.PrimResult.TheVariants as made_by
use Rattle.eval_template.specs.Binds.{Absent, unbound}
use Rattle.eval_template.specs.Instance as instances
use Rattle.eval_template.specs.Lengths.{agree, or_none}
use Rattle.eval_code.specs.Codes as table
use Rattle.eval_code.specs.Codes.{code_at}
use Rattle.eval_code.specs.Evals.{setting_with, state_of}
use Rattle.eval_code.specs.Lines.{defined, with_lines, lines_from}
use Rattle.eval_code.specs.Instances.{Binds, match_of, instance_of, cost_of, instance_made, instance_paid, instance_with, instanced, gathered}
use Rattle.eval_code.specs.Procedures.{first_case, bindings, has_text, text_number, text_body, truth_of}
use Rattle.eval_code.specs.Quoted.{datum_cost}
use Rattle.eval_code.specs.Setting.{PlainSetting}
use Rattle.eval_code.specs.Spread.{CallBy, apply_args, parted, with_elements, with_front, on_parts, spread_once, spread_on, spread_to, spread}
use Rattle.eval_code.specs.State.{WorldState, Outcome, done, faulted, unfit, Go, then_do, charged, made, store, next_place, with_cell}
use Rattle.eval_code.specs.Variables.{found, unset, cell_with, assigned_in, assigned, all_assigned}
use Rattle.eval_code.specs.Meaning.{Evaluator, answer_made, primitive_called, variable_read, variable_value, quoted_value, by_case, by_code, procedure_called, text_value_called, by_text, op_called, value_called, first_called, applied, operands, in_sequence, one_arm, two_arms, in_turn, at_once, by_letrec, fender_passed, output_given, fender_asked, on_match, tried, expressed, unrolled, evaluates, eval_of}
use Rattle.eval_code.specs.Trying.{clause_before}
use Rattle.law_eval.specs.Kept.{LaterWorld, EndsLater, LibrariesEndLater}

abbrev pub KeepsAlways : Evaluator → Type 0
KeepsAlways E = (c : PlainCore) (scope : Place) (s : WorldState) (n : ℕ) → EndsLater s (E c scope s n)

-- what comes of a value ends later than a state, where the state then is later
abbrev pub GoKeeps : WorldState → Go → Type 0
GoKeeps s g = (v : Value) (t : WorldState) (n : ℕ) → LaterWorld s t → EndsLater s (g v t n)

later_refl : (s : WorldState) → LaterWorld s s
later_refl s = record { cells = keeps_refl s.cells; library = refl; names = omega arith }

pub later_then : (r s t : WorldState) → LaterWorld r s → LaterWorld s t → LaterWorld r t
later_then r s t h k = record { cells = keeps_then r.cells s.cells t.cells h.cells k.cells; library = k.library ∙ h.library; names = omega (arith, h.names, k.names) }

-- more cells alone
later_cells : (s : WorldState) (cells : List Cell) → Keeps s.cells cells → LaterWorld s (store cells s.names)
later_cells s cells k = record { cells = k; library = refl; names = omega arith }

ends-later : (r s : WorldState) (o : Outcome) → LaterWorld r s → EndsLater s o → EndsLater r o
ends-later r s (done v t n) k h = later_then r s t k h
ends-later r s (faulted f t n) k h = later_then r s t k h
ends-later r s unfit k h = tt

keeps-thens : (s : WorldState) (o : Outcome) (g : Go) → EndsLater s o → GoKeeps s g → EndsLater s (then_do o g)
keeps-thens s (done v t n) g k h = h v t n k
keeps-thens s (faulted f t n) g k h = k
keeps-thens s unfit g k h = tt

keeps-if : (s : WorldState) (t : Bool) (o p : Outcome) → EndsLater s o → EndsLater s p → EndsLater s (if t then o else p)
keeps-if s true o p k h = k
keeps-if s false o p k h = h

keeps-charged : (s t : WorldState) (cost n : ℕ) (g : ℕ → Outcome) → LaterWorld s t → ((m : ℕ) → EndsLater s (g m)) → EndsLater s (charged cost t n g)
keeps-charged s t cost n g k h = keeps-if s (nat_lt n cost) (faulted fuel_spent t n) (g (n - cost)) k (h (n - cost))

-- a cell more
keeps-one : (cells : List Cell) (c : Cell) → Keeps cells (cells ++ c ∷ [])
keeps-one cells c = keeps_added cells cells c (keeps_refl cells)

-- What is made.

performed_keeps : (m : PrimResult) (name : Named) (cells : List Cell) → Keeps cells (performed m name cells).1
performed_keeps (made_by.Value x) name cells = keeps_refl cells
performed_keeps (made_by.List xs x) name cells = pairs_keep xs (x, cells)
performed_keeps (made_by.Vector xs) name cells = keeps-one cells (cell.Vector xs)
performed_keeps (made_by.Text text) name cells = keeps-one cells (cell.Str text)
performed_keeps (made_by.Transformer x) name cells = keeps-one cells (cell.Transformer x)
performed_keeps (made_by.Datum x) name cells = stored_keeps (datum_in cells x) cells
performed_keeps (made_by.Temporaries n) name cells = pairs_keep (temporaries n name) (value.Atom a.Nil, cells)

-- an action on cells that only adds
abbrev OkKeeps : {A : Type 0} → List Cell → Result (A × List Cell) Bare → Type 0
OkKeeps cells (Ok p) = Keeps cells p.1
OkKeeps cells (Err f) = Unit {0}

abbrev AddsOnly : {A : Type 0} → (List Cell → Result (A × List Cell) Bare) → Type 0
AddsOnly m = (cells : List Cell) → OkKeeps cells (m cells)

added-then : {A B : Type 0} (cells : List Cell) (r : Result (A × List Cell) Bare) (go : A → List Cell → Result (B × List Cell) Bare)
    → OkKeeps cells r → ((a : A) → AddsOnly (go a)) → OkKeeps cells (instances.then_add r go)
added-then {A} {B} cells (Ok p) go k h = later (go p.0 p.1) (h p.0 p.1)
  where
    later : (q : Result (B × List Cell) Bare) → OkKeeps p.1 q → OkKeeps cells q
    later (Ok r) j = keeps_then cells p.1 r.1 k j
    later (Err f) j = tt
added-then cells (Err f) go k h = tt

turned_adds : (go : List ℕ → List Value → List Cell → Result (List Value × List Cell) Bare) → ((turns : List ℕ) (vs : List Value) → AddsOnly (go turns vs))
    → (n i : ℕ) (turns : List ℕ) (vs : List Value) → AddsOnly (instances.turned go n i turns vs)
turned_adds go adds zero i turns vs cells = keeps_refl cells
turned_adds go adds (suc n) i turns vs cells =
    added-then cells (go (turns ++ i ∷ []) vs cells) (instances.turned go n (i + 1) turns) (adds (turns ++ i ∷ []) vs cells) (turned_adds go adds n (i + 1) turns)

item_adds : (go : List ℕ → List Cell → Result (Value × List Cell) Bare) (counts : ℕ → List ℕ → List ℕ) → ((turns : List ℕ) → AddsOnly (go turns))
    → (ellipses : ℕ) (turns : List ℕ) (vs : List Value) → AddsOnly (instances.item go counts ellipses turns vs)
item_adds go counts adds zero turns vs cells = added-then cells (go turns cells) (λ v grown. Ok (vs ++ v ∷ [], grown)) (adds turns cells) (λ v grown. keeps_refl grown)
item_adds go counts adds (suc ellipses) turns vs cells = by_count (item_adds go counts adds ellipses) (agree None (counts ellipses turns))
  where
    by_count : ((inner : List ℕ) (ws : List Value) → AddsOnly (instances.item go counts ellipses inner ws)) → (r : Result (Option ℕ) Bare)
        → OkKeeps cells (r >>= λ n. instances.turned (instances.item go counts ellipses) (or_none n) 0 turns vs cells)
    by_count inner (Ok n) = turned_adds (instances.item go counts ellipses) inner (or_none n) 0 turns vs cells
    by_count inner (Err f) = tt

ending_adds : (t : PlainTemplate) (go : List Cell → Result (Value × List Cell) Bare) → AddsOnly go → AddsOnly (instances.ending t go)
ending_adds t go adds cells = by_test (instances.is_end t)
  where
    by_test : (b : Bool) → OkKeeps cells (if b then Ok (value.Atom a.Nil, cells) else go cells)
    by_test true = keeps_refl cells
    by_test false = adds cells

mutual
  instance_adds : (absent : Absent) (bs : Binds) (t : PlainTemplate) (turns : List ℕ) → AddsOnly (instances.instance absent bs t turns)
  instance_adds absent bs (template.variable l depth) turns cells = keeps_refl cells
  instance_adds absent bs (template.constant t) turns cells = keeps_refl cells
  instance_adds absent bs (template.list is t) turns cells =
      added-then cells (instances.parts absent bs is turns [] cells)
      (λ xs grown. instances.then_add (instances.ending t (instances.instance absent bs t turns) grown) (λ v later. Ok (pairs_stored xs (v, later)))) (parts_adds absent bs is turns [] cells)
      (λ xs grown. added-then grown (instances.ending t (instances.instance absent bs t turns) grown) (λ v later. Ok (pairs_stored xs (v, later))) (ending_adds t (instances.instance absent bs t turns) (instance_adds absent bs t turns) grown)
      (λ v later. pairs_keep xs (v, later)))
  instance_adds absent bs (template.vector is) turns cells =
      added-then cells (instances.parts absent bs is turns [] cells) (λ xs grown. Ok (vector_stored (xs, grown))) (parts_adds absent bs is turns [] cells)
      (λ xs grown. keeps-one grown (cell.Vector xs))

  parts_adds : (absent : Absent) (bs : Binds) (is : PlainItems) (turns : List ℕ) (vs : List Value) → AddsOnly (instances.parts absent bs is turns vs)
  parts_adds absent bs template.none turns vs cells = keeps_refl cells
  parts_adds absent bs (template.more t ellipses is) turns vs cells =
      added-then cells (instances.item (instances.instance absent bs t) (instances.counts absent bs t) ellipses turns vs cells) (instances.parts absent bs is turns)
      (item_adds (instances.instance absent bs t) (instances.counts absent bs t) (instance_adds absent bs t) ellipses turns vs cells) (parts_adds absent bs is turns)

keeps-instance : (s : WorldState) (r : Result (Value × List Cell) Bare) → OkKeeps s.cells r → (n : ℕ) → EndsLater s (instance_made s r n)
keeps-instance s (Ok p) k n = later_cells s p.1 k
keeps-instance s (Err f) k n = later_refl s

keeps-paid : (s : WorldState) (n : ℕ) (r : Result (Value × List Cell) Bare) (c : Result ℕ Bare) → OkKeeps s.cells r → EndsLater s (instance_paid s n r c)
keeps-paid s n r (Ok cost) k = keeps-charged s s cost n (instance_made s r) (later_refl s) (keeps-instance s r k)
keeps-paid s n r (Err f) k = later_refl s

keeps-instance_with : (t : PlainTemplate) (s : WorldState) (n : ℕ) (o : Option Binds) → EndsLater s (instance_with t s n o)
keeps-instance_with t s n None = tt
keeps-instance_with t s n (Some bs) = keeps-paid s n (instance_of bs t s.cells) (cost_of bs t) (instance_adds unbound bs t [] s.cells)

keeps-instanced : (t : PlainTemplate) (scope : Place) (s : WorldState) (n : ℕ) → EndsLater s (instanced t scope s n)
unfolding instanced
keeps-instanced t scope s n = keeps-instance_with t s n (gathered s.cells scope t [])

keeps-answer : (s : WorldState) (n : ℕ) (a : PrimAnswer) → EndsLater s (answer_made s n a)
keeps-answer s n (Ok m) = record { cells = performed_keeps m s.names s.cells; library = refl; names = omega arith }
keeps-answer s n (Err f) = later_refl s

keeps-primitive : (w : PlainSetting) (op : ℕ) (args : List Value) (s : WorldState) (n : ℕ) → EndsLater s (primitive_called w op args s n)
unfolding primitive_called
keeps-primitive w op args s n =
    keeps-charged s s (cost op args s.cells) n (λ m. answer_made s m (delta op args s.cells w.frames)) (later_refl s) (λ m. keeps-answer s m (delta op args s.cells w.frames))

keeps-read : (w : PlainSetting) (l : Label) (s : WorldState) (n : ℕ) (o : Option (Option Value)) → EndsLater s (variable_read w l s n o)
keeps-read w l s n None = tt
keeps-read w l s n (Some None) = later_refl s
keeps-read w l s n (Some (Some v)) = later_refl s

keeps-variable : (w : PlainSetting) (l : Label) (scope : Place) (s : WorldState) (n : ℕ) → EndsLater s (variable_value w l scope s n)
unfolding variable_value
keeps-variable w l scope s n = keeps-read w l s n (found (suc (length s.cells)) w.globals s.cells l (Some scope))

keeps-quoted : (d : PlainDatum) (s : WorldState) (n : ℕ) → EndsLater s (quoted_value d s n)
unfolding quoted_value
keeps-quoted d s n = keeps-charged s s (datum_cost d) n (made s.names (stored d s.cells)) (later_refl s) (λ m. later_cells s (stored d s.cells).1 (stored_keeps d s.cells))

-- A variable of a cell that was added gets its value.

set_beyond : (cells : List Cell) (n i : ℕ) (c : Cell) → n ≤ i → take n (slice_set cells i c) ≡ take n cells
set_beyond [] n i c h = refl
set_beyond (x ∷ cells) zero i c h = refl
set_beyond (x ∷ cells) (suc n) zero c h = absurd (omega (arith, h))
set_beyond (x ∷ cells) (suc n) (suc i) c h = ap (λ ys. x ∷ ys) (set_beyond cells n i c (omega (arith, h)))

assigned_keeps : (x cells : List Cell) (place : Place) (l : Label) (v : Value) → length x ≤ place.0 → Keeps x cells → Keeps x (assigned cells place l v)
assigned_keeps x cells place l v h k = by_cell (slice_get cells place.0)
  where
    by_cell : (o : Option Cell) → Keeps x (assigned_in cells place l v o)
    by_cell None = k
    by_cell (Some c) = set_beyond cells (length x) place.0 (cell_with l v c) h ∙ k

all_assigned_keeps : (x cells : List Cell) (place : Place) (is : PlainInits) (vs : List Value) → length x ≤ place.0 → Keeps x cells → Keeps x (all_assigned cells place is vs)
all_assigned_keeps x cells place no_init vs h k = k
all_assigned_keeps x cells place (init l c is) [] h k = k
all_assigned_keeps x cells place (init l c is) (v ∷ vs) h k = all_assigned_keeps x (assigned cells place l v) place is vs h (assigned_keeps x cells place l v h k)

pub later_with : (s : WorldState) (c : Cell) → LaterWorld s (with_cell c s)
later_with s c = later_cells s (s.cells ++ c ∷ []) (keeps-one s.cells c)

later_assigned : (r t : WorldState) (place : Place) (l : Label) (v : Value) → length r.cells ≤ place.0 → LaterWorld r t → LaterWorld r (store (assigned t.cells place l v) t.names)
later_assigned r t place l v h k = record { cells = assigned_keeps r.cells t.cells place l v h k.cells; library = k.library; names = k.names }

bindings_keep : (o : Option Label) (ls : List Label) (vs : List Value) (cells : List Cell) → Keeps cells (bindings o ls vs cells).1
bindings_keep None ls vs cells = keeps_refl cells
bindings_keep (Some l) ls vs cells = pairs_keep (drop (length ls) vs) (value.Atom a.Nil, cells)

-- Calls.

module _ (s : WorldState) (g : CallBy) (keeps : (vs : List Value) (n : ℕ) → EndsLater s (g vs n)) where
  keeps-elements : (front : List Value) (n : ℕ) (o : Option (List Value)) → EndsLater s (with_elements front s g n o)
  keeps-elements front n None = later_refl s
  keeps-elements front n (Some xs) = keeps-charged s s (length xs) n (g (front ++ xs)) (later_refl s) (keeps (front ++ xs))

  keeps-front : (front : List Value) (last : Value) (n : ℕ) → EndsLater s (with_front front last s g n)
  keeps-front [] last n = later_refl s
  keeps-front (x ∷ xs) last n = keeps-elements (x ∷ xs) n (list_elements s.cells last)

  keeps-parts : (n : ℕ) (o : Option (List Value × Value)) → EndsLater s (on_parts s g n o)
  keeps-parts n None = later_refl s
  keeps-parts n (Some p) = keeps-front p.0 p.1 n

  keeps-once : (args : List Value) (n : ℕ) → EndsLater s (spread_once args s g n)
  unfolding spread_once
  keeps-once args n = keeps-parts n (parted args)

module _ (s : WorldState) (g : CallBy) (keeps : (vs : List Value) (n : ℕ) → EndsLater s (g vs n)) where
  keeps-to : (turns : ℕ) (vs : List Value) (n : ℕ) → EndsLater s (spread_to turns s g vs n)
  keeps-to zero vs n = tt
  keeps-to (suc turns) vs n = by_args (keeps-to turns) (apply_args vs)
    where
      by_args : ((ws : List Value) (m : ℕ) → EndsLater s (spread_to turns s g ws m)) → (o : Option (List Value)) → EndsLater s (spread_on s (spread_to turns s g) (g vs) n o)
      by_args again None = keeps vs n
      by_args again (Some args) = keeps-once s (spread_to turns s g) again args n

  keeps-spread : (vs : List Value) (n : ℕ) → EndsLater s (spread s g vs n)
  unfolding spread
  keeps-spread vs n = keeps-to (suc (n + length vs)) vs n

module _ (w : PlainSetting) (E : Evaluator) (keeps : KeepsAlways E) where
  keeps-case : (parent : Place) (args : List Value) (s : WorldState) (n : ℕ) (x : Option (Formals × PlainCore)) → EndsLater s (by_case w E parent args s n x)
  keeps-case parent args s n None = later_refl s
  keeps-case parent args s n (Some x) =
      let p = bindings x.0.rest x.0.required args s.cells in
      ends-later s (store (p.1 ++ cell.Scope p.0 (Some parent) ∷ []) s.names) _
      (later_cells s _ (keeps_added s.cells p.1 (cell.Scope p.0 (Some parent)) (bindings_keep x.0.rest x.0.required args s.cells))) (keeps _ _ _ n)

  keeps-code : (parent : Place) (args : List Value) (s : WorldState) (n : ℕ) (x : Option PlainCode) → EndsLater s (by_code w E parent args s n x)
  keeps-code parent args s n None = tt
  keeps-code parent args s n (Some code) = keeps-case parent args s n (first_case code.cases (length args))

  keeps-procedure : (number : CodeNo) (parent : Place) (args : List Value) (s : WorldState) (n : ℕ) → EndsLater s (procedure_called w E number parent args s n)
  unfolding procedure_called
  keeps-procedure number parent args s n = keeps-code parent args s n (code_at w.codes number)

  keeps-text_value : (args : List Value) (v : Value) (s : WorldState) (n : ℕ) → EndsLater s (text_value_called w E args v s n)
  keeps-text_value args (value.Closure number parent) s n = keeps-procedure number parent args s n
  keeps-text_value args value.Unspecified s n = tt
  keeps-text_value args (value.Atom x) s n = tt
  keeps-text_value args (value.Symbol x) s n = tt
  keeps-text_value args (value.Pair p) s n = tt
  keeps-text_value args (value.Vector p) s n = tt
  keeps-text_value args (value.Str p) s n = tt
  keeps-text_value args (value.Prim op) s n = tt
  keeps-text_value args (value.Syn t) s n = tt
  keeps-text_value args (value.Transformer p) s n = tt

  -- what follows keeps what was there before the part
  go-keeps : (s : WorldState) (g : Go) → ((v : Value) (t : WorldState) (n : ℕ) → EndsLater t (g v t n)) → GoKeeps s g
  go-keeps s g h v t n k = ends-later s t (g v t n) k (h v t n)

  keeps-text : (args : List Value) (s : WorldState) (n : ℕ) (x : Option PlainCore) → EndsLater s (by_text w E args s n x)
  keeps-text args s n None = tt
  keeps-text args s n (Some body) =
      keeps-thens s _ _ (ends-later s (with_cell (cell.Scope [] None) s) _ (later_with s (cell.Scope [] None)) (keeps body _ _ n))
      (go-keeps s (text_value_called w E args) (keeps-text_value args))

  keeps-op : (op : Op) (args : List Value) (s : WorldState) (n : ℕ) → EndsLater s (op_called w E op args s n)
  unfolding op_called
  keeps-op op args s n =
      keeps-if s (has_text op.0) _ _ (keeps-text args s n (text_body (code_at w.codes (text_number op.0)))) (keeps-primitive w op.0 args s n)

  keeps-value : (f : Value) (args : List Value) (s : WorldState) (n : ℕ) → EndsLater s (value_called w E f args s n)
  keeps-value (value.Closure number parent) args s n = keeps-procedure number parent args s n
  keeps-value (value.Prim op) args s n = keeps-op op args s n
  keeps-value value.Unspecified args s n = later_refl s
  keeps-value (value.Atom x) args s n = later_refl s
  keeps-value (value.Symbol x) args s n = later_refl s
  keeps-value (value.Pair p) args s n = later_refl s
  keeps-value (value.Vector p) args s n = later_refl s
  keeps-value (value.Str p) args s n = later_refl s
  keeps-value (value.Syn t) args s n = later_refl s
  keeps-value (value.Transformer p) args s n = later_refl s

  keeps-first : (s : WorldState) (vs : List Value) (n : ℕ) → EndsLater s (first_called w E s vs n)
  unfolding first_called
  keeps-first s [] n = tt
  keeps-first s (f ∷ args) n = keeps-value f args s n

  pub keeps-applied : (vs : List Value) (s : WorldState) (n : ℕ) → EndsLater s (applied w E vs s n)
  unfolding applied
  keeps-applied vs s n = keeps-spread s (first_called w E s) (keeps-first s) vs n

  keeps-operands : (cs : PlainCores) (scope : Place) (vs : List Value) (s : WorldState) (n : ℕ) → EndsLater s (operands w E cs scope vs s n)
  keeps-operands none scope vs s n = keeps-applied vs s n
  keeps-operands (more c cs) scope vs s n =
      keeps-thens s _ _ (keeps c scope s n) (go-keeps s _ (λ v s n. keeps-operands cs scope (vs ++ v ∷ []) s n))

  keeps-sequence : (cs : PlainCores) (scope : Place) (s : WorldState) (n : ℕ) → EndsLater s (in_sequence w E cs scope s n)
  keeps-sequence none scope s n = tt
  keeps-sequence (more c none) scope s n = keeps c scope s n
  keeps-sequence (more c (more d cs)) scope s n = keeps-thens s _ _ (keeps c scope s n) (go-keeps s _ (λ v s n. keeps-sequence (more d cs) scope s n))

  keeps-one_arm : (c : PlainCore) (scope : Place) (v : Value) (s : WorldState) (n : ℕ) → EndsLater s (one_arm w E c scope v s n)
  keeps-one_arm c scope v s n = keeps-if s (truth_of v) _ _ (keeps c scope s n) (later_refl s)

  keeps-two_arms : (c d : PlainCore) (scope : Place) (v : Value) (s : WorldState) (n : ℕ) → EndsLater s (two_arms w E c d scope v s n)
  keeps-two_arms c d scope v s n = keeps-if s (truth_of v) _ _ (keeps c scope s n) (keeps d scope s n)

  -- a `letrec` whose cell was added after a state
  keeps-in_turn : (r : WorldState) (is : PlainInits) (body : PlainCore) (scope : Place) (s : WorldState) (n : ℕ) → length r.cells ≤ scope.0 → LaterWorld r s → EndsLater r (in_turn w E is body scope s n)
  keeps-in_turn r no_init body scope s n h k = ends-later r s _ k (keeps body scope s n)
  keeps-in_turn r (init l c is) body scope s n h k =
      keeps-thens r _ _ (ends-later r s _ k (keeps c scope s n))
      (λ v t n k. keeps-in_turn r is body scope (store (assigned t.cells scope l v) t.names) n h (later_assigned r t scope l v h k))

  keeps-at_once : (r : WorldState) (is all : PlainInits) (body : PlainCore) (scope : Place) (vs : List Value) (s : WorldState) (n : ℕ) → length r.cells ≤ scope.0 → LaterWorld r s
      → EndsLater r (at_once w E is (record { variables = all; body = body; scope = scope }) vs s n)
  keeps-at_once r no_init all body scope vs s n h k =
      ends-later r (store (all_assigned s.cells scope all vs) s.names) _
      (record { cells = all_assigned_keeps r.cells s.cells scope all vs h k.cells; library = k.library; names = k.names }) (keeps body scope _ n)
  keeps-at_once r (init l c is) all body scope vs s n h k =
      keeps-thens r _ _ (ends-later r s _ k (keeps c scope s n)) (λ v t n k. keeps-at_once r is all body scope (vs ++ v ∷ []) t n h k)

  keeps-letrec : (in_order : Bool) (is : PlainInits) (body : PlainCore) (scope : Place) (s : WorldState) (n : ℕ)
      → EndsLater s (by_letrec w E in_order (record { variables = is; body = body; scope = next_place s }) (with_cell (cell.Scope (unset is) (Some scope)) s) n)
  keeps-letrec true is body scope s n = keeps-in_turn s is body (next_place s) _ n (omega arith) (later_with s (cell.Scope (unset is) (Some scope)))
  keeps-letrec false is body scope s n = keeps-at_once s is is body (next_place s) [] _ n (omega arith) (later_with s (cell.Scope (unset is) (Some scope)))

  -- `syntax-case`

  abbrev NextKeeps : (Place → WorldState → ℕ → Outcome) → Type 0
  NextKeeps g = (scope : Place) (s : WorldState) (n : ℕ) → EndsLater s (g scope s n)

  keeps-output : (output : PlainCore) (scope : Place) (f : PatternBinds) (s : WorldState) (n : ℕ) → EndsLater s (output_given w E output scope f s n)
  keeps-output output scope f s n =
      ends-later s (with_cell (cell.Binds f.binds (Some scope)) s) _ (later_with s (cell.Binds f.binds (Some scope))) (keeps output _ _ n)

  keeps-passed : (g : Place → WorldState → ℕ → Outcome) → NextKeeps g → (output : PlainCore) (scope inner : Place) (v : Value) (s : WorldState) (n : ℕ) → EndsLater s (fender_passed w E (record { output = output; others = g scope; scope = scope }) inner v s n)
  keeps-passed g next output scope inner v s n = keeps-if s (truth_of v) _ _ (keeps output inner s n) (next scope s n)

  keeps-asked : (g : Place → WorldState → ℕ → Outcome) → NextKeeps g → (fender output : PlainCore) (scope : Place) (f : PatternBinds) (s : WorldState) (n : ℕ) → EndsLater s (fender_asked w E fender (record { output = output; others = g scope; scope = scope }) f s n)
  keeps-asked g next fender output scope f s n =
      keeps-thens s _ _ (ends-later s (with_cell (cell.Binds f.binds (Some scope)) s) _ (later_with s (cell.Binds f.binds (Some scope))) (keeps fender _ _ n))
      (go-keeps s _ (keeps-passed g next output scope (next_place s)))

  keeps-match : (g : Place → WorldState → ℕ → Outcome) → NextKeeps g → (i : PatternBinds → WorldState → ℕ → Outcome) → ((f : PatternBinds) (s : WorldState) (n : ℕ) → EndsLater s (i f s n))
      → (scope : Place) (s : WorldState) (n : ℕ) (o : Option PatternBinds) → EndsLater s (on_match w E (g scope) i s n o)
  keeps-match g next i take scope s n None = next scope s n
  keeps-match g next i take scope s n (Some f) = keeps-charged s s f.taken n (i f s) (later_refl s) (take f s)

  keeps-tried : (cs : PlainClauses) (v : Value) → NextKeeps (tried w E cs v)
  unfolding tried
  keeps-tried no_clause v scope s n = later_refl s
  keeps-tried (clause p output cs) v scope s n =
      keeps-charged s s 1 n _ (later_refl s)
      (λ m. keeps-match (tried w E cs v) (keeps-tried cs v) (output_given w E output scope) (keeps-output output scope) scope s m (match_of w.frames s.cells p v))
  keeps-tried (fended p fender output cs) v scope s n =
      keeps-charged s s 1 n _ (later_refl s)
      (λ m. keeps-match (tried w E cs v) (keeps-tried cs v) (fender_asked w E fender (clause_before w E output cs v scope)) (keeps-asked (tried w E cs v) (keeps-tried cs v) fender output scope)
      scope s m (match_of w.frames s.cells p v))

  keeps-expressed : (c : PlainCore) (scope : Place) (s : WorldState) (n : ℕ) → EndsLater s (expressed w E c scope s n)
  keeps-expressed (quoted d) scope s n = keeps-quoted d s n
  keeps-expressed (variable l) scope s n = keeps-variable w l scope s n
  keeps-expressed (primitive op) scope s n = later_refl s
  keeps-expressed (one_armed c d) scope s n = keeps-thens s _ _ (keeps c scope s n) (go-keeps s _ (keeps-one_arm d scope))
  keeps-expressed (two_armed c d e) scope s n = keeps-thens s _ _ (keeps c scope s n) (go-keeps s _ (keeps-two_arms d e scope))
  keeps-expressed (assignment l c) scope s n = later_refl s
  keeps-expressed (sequence cs) scope s n = keeps-sequence cs scope s n
  keeps-expressed (procedure number cs plain) scope s n = later_refl s
  keeps-expressed (letrec in_order is c) scope s n = keeps-letrec in_order is c scope s n
  keeps-expressed (call c cs) scope s n = keeps-thens s _ _ (keeps c scope s n) (go-keeps s _ (λ f s n. keeps-operands cs scope (f ∷ []) s n))
  keeps-expressed (instance t sp) scope s n = keeps-instanced t scope s n
  keeps-expressed (matching c cs sp) scope s n = keeps-thens s _ _ (keeps c scope s n) (go-keeps s _ (λ v s n. keeps-tried cs v scope s n))

  keeps-unrolled : KeepsAlways (unrolled w E)
  keeps-unrolled c scope s zero = later_refl s
  keeps-unrolled c scope s (suc n) = keeps-expressed c scope s n

module _ (w : PlainSetting) where
  keeps-evaluates : (depth : ℕ) → KeepsAlways (evaluates w depth)
  unfolding evaluates
  keeps-evaluates zero c scope s n = later_refl s
  keeps-evaluates (suc depth) c scope s n = keeps-unrolled w (evaluates w depth) (keeps-evaluates depth) c scope s n

  pub keeps-eval_of : KeepsAlways (eval_of w)
  unfolding eval_of
  keeps-eval_of c scope s n = keeps-evaluates n c scope s n

  pub keeps-call : (vs : List Value) (s : WorldState) (n : ℕ) → EndsLater s (applied w (eval_of w) vs s n)
  keeps-call vs s n = keeps-applied w (eval_of w) keeps-eval_of vs s n

  -- the lines of a library whose cell of variables was added after a state
  keeps-lines : (r : WorldState) (ls : List Line) (scope : Place) (s : WorldState) (n : ℕ) → length r.cells ≤ scope.0 → LaterWorld r s → EndsLater r (lines_from (eval_of w) ls scope s n)
  keeps-lines r [] scope s n h k = k
  keeps-lines r (line.Define l c ∷ ls) scope s n h k =
      keeps-thens r _ _ (ends-later r s _ k (keeps-eval_of c scope s n))
      (λ v t n k. keeps-lines r ls scope (store (assigned t.cells scope l v) t.names) n h (later_assigned r t scope l v h k))
  keeps-lines r (line.Expr c ∷ ls) scope s n h k = keeps-thens r _ _ (ends-later r s _ k (keeps-eval_of c scope s n)) (λ v t n k. keeps-lines r ls scope t n h k)

  -- likewise, from that state on
  pub keeps-defined : (ls : List Line) (s : WorldState) (n : ℕ) → EndsLater s (lines_from (eval_of w) ls (next_place s) (with_cell (cell.Scope (defined ls) None) s) n)
  keeps-defined ls s n =
      keeps-lines s ls (next_place s) (with_cell (cell.Scope (defined ls) None) s) n (omega arith) (later_with s (cell.Scope (defined ls) None))

  -- an expression with a cell of its own
  pub keeps-alone : (c : PlainCore) (s : WorldState) (n : ℕ) → EndsLater s (eval_of w c (next_place s) (with_cell (cell.Scope [] None) s) n)
  keeps-alone c s n = ends-later s _ _ (later_with s (cell.Scope [] None)) (keeps-eval_of c _ _ n)

pub keeps-library : LibrariesEndLater
keeps-library w ls n = keeps-defined (setting_with (with_lines ls (table.seen w.codes.entries)) w) ls (state_of w) n
