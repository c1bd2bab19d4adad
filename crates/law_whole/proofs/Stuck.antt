-- In a whole world code that is ready never meets cells that don't fit.
use Rattle.std.proofs.Common.{◌≡◌, ◌<◌, ◌+◌, ℕ, zero, suc, List, [], ◌∷◌, ◌++◌, Option, Some, None, Bool, true, false, cond, length, refl, sym, subst, if◌then◌else◌, arith, slice_get, option_map}
use Rattle.std.specs.Prelude.{IsTrue, nat_eq}
use Rattle.std.specs.Map.{lookup}
use Rattle.base_data.proofs.ElementLemmas.{each-append, each-and}
use Rattle.base_data.specs.Elements.{Each}
use Rattle.base_data.specs.declared.name.CodeNo.{CodeNo}
use Rattle.base_data.specs.declared.name.Label.{Label}
use Rattle.base_data.specs.declared.op.Op.{Op}
use Rattle.base_data.specs.declared.op.names.TheConstants as names
use Rattle.base_region.specs.declared.region.Place.{Place}
use Rattle.stx_frames.specs.Scope.{or_else}
use Rattle.core_language.specs.Core.{PlainCore, quoted, variable, primitive, one_armed, two_armed, assignment, sequence, procedure, letrec, call, instance, matching}
use Rattle.core_language.specs.Core.{PlainCores, none, more, PlainInits, no_init, init, PlainCases, PlainClauses, no_clause, clause, fended, PlainCode}
use Rattle.core_language.specs.Labels.{same_label}
use Rattle.core_language.specs.Pattern.{PlainPattern}
use Rattle.core_language.specs.References.{formals_labels}
use Rattle.core_language.specs.declared.formals.Formals.{Formals}
use Rattle.law_core.specs.Parts.{init_labels}
use Rattle.law_core.specs.Templates.{depths}
use Rattle.eval_value.specs.Cells.{is_found}
use Rattle.eval_value.specs.declared.value.Value.{Value}
use Rattle.eval_value.specs.declared.value.Value.TheVariants as value
use Rattle.eval_value.specs.declared.cell.Cell.{Cell}
use Rattle.eval_value.specs.declared.cell.Cell.TheVariants as cell
use Rattle.eval_pattern.specs.declared.columns.PatternBinds.{PatternBinds}
use Rattle.eval_prims.specs.Chains.{list_elements}
use Rattle.law_prims.proofs.Taken.{ValueOr, ValuesOr, elements_hold}
use Rattle.eval_code.specs.Codes.{code_at}
use Rattle.eval_code.specs.Instances.{match_of}
use Rattle.eval_code.specs.Procedures.{first_case, bindings, has_text, text_number, text_body, truth_of}
use Rattle.eval_code.specs.Setting.{PlainSetting}
use Rattle.eval_code.specs.Spread.{CallBy, apply_args, before_last, parted, with_elements, with_front, on_parts, spread_once, spread_on, spread_to, spread}
use Rattle.eval_code.specs.State.{WorldState, Outcome, done, faulted, unfit, then_do, store, next_place, with_cell}
use Rattle.eval_code.specs.Variables.{Entries, entry_in, parent_in, upwards, here_or_up, found, unset, assigned, all_assigned}
use Rattle.eval_code.specs.Meaning.{Evaluator, primitive_called, variable_read, variable_value, by_case, by_code, procedure_called, text_value_called, by_text, op_called, value_called, first_called, applied, operands, in_sequence, one_arm, two_arms, in_turn, at_once, by_letrec, fender_passed, output_given, fender_asked, on_match, tried, expressed, unrolled, evaluates, eval_of}
use Rattle.eval_code.specs.Trying.{clause_before}
use Rattle.law_whole.specs.Grows.{WorldGrowth}
use Rattle.law_whole.specs.PartsReady.{EndsWell, MatchReady}
use Rattle.law_whole.specs.Ready.{Besides, BesidesPattern, FoundFrom, BoundFrom, Ready, ReadyIn, AllReadyIn, InitsReadyIn, CasesReadyIn, ClausesReadyIn}
use Rattle.law_whole.specs.WholeWorld.{CodeReady, ValueReady, ValuesReady, OptionReady, CellReady, TextReady, WholeWorld, WholeEnding, NeverStuck, AppliedNeverStuck}
use Rattle.law_whole.proofs.Growth.{grows_refl, grows_then, grows_assigned, variables_still}
use Rattle.law_whole.proofs.Steady.{besides_map, ready_map, inits_map, from_still, bound_from_still, ready_still, all_still, inits_still, clauses_still, value_still, values_still}
use Rattle.law_whole.proofs.Given.{well_instance}
use Rattle.law_whole.proofs.Made.{well_primitive, well_quoted}
use Rattle.law_whole.proofs.Matches.{match_ready}
use Rattle.law_whole.proofs.Reading.{all_read_ready}
use Rattle.law_whole.proofs.Texts.{IsProcedure, GivesClosure, TextsGive, texts_give}
use Rattle.law_whole.proofs.Wells.{HasScope, well_later, well_then, well_if, well_charged}
use Rattle.law_whole.proofs.Worlds.{grows_added, world_assigned, grows_all_assigned, world_all_assigned, scope_added, first_scope_added, binds_added, has_added, bindings_good, formals_found, unset_found, unset_ready, scope_finds, scope_finds_all, scope_binds, pattern_finds, pattern_binds, case_ready}

-- The value of a variable.

abbrev FoundReady : PlainSetting → List Cell → Option (Option Value) → Type 0
FoundReady w cells None = Unit {0}
FoundReady w cells (Some o) = OptionReady w cells o

or_ready : (w : PlainSetting) (cells : List Cell) (a r : Option (Option Value)) → FoundReady w cells a → FoundReady w cells r → FoundReady w cells (or_else a r)
or_ready w cells None r h k = k
or_ready w cells (Some o) r h k = h

entries_ready : (w : PlainSetting) (cells : List Cell) (l : Label) (es : Entries) → Each (λ (e : Label × Option Value). OptionReady w cells e.1) es → FoundReady w cells (lookup (same_label l) es)
entries_ready w cells l [] r = tt
entries_ready w cells l (e ∷ es) r = by_own (same_label l e.0) (entries_ready w cells l es r.1)
  where
    by_own : (t : Bool) → FoundReady w cells (lookup (same_label l) es) → FoundReady w cells (cond t (Some e.1) (lookup (same_label l) es))
    by_own true k = r.0
    by_own false k = k

globals_ready : (w : PlainSetting) (cells : List Cell) (l : Label) (gs : List (Label × Value)) → Each (λ (e : Label × Value). ValueReady w cells e.1) gs → ValueOr (ValueReady w cells) (lookup (same_label l) gs)
globals_ready w cells l [] r = tt
globals_ready w cells l (e ∷ gs) r = by_own (same_label l e.0) (globals_ready w cells l gs r.1)
  where
    by_own : (t : Bool) → ValueOr (ValueReady w cells) (lookup (same_label l) gs) → ValueOr (ValueReady w cells) (cond t (Some e.1) (lookup (same_label l) gs))
    by_own true k = r.0
    by_own false k = k

entry_ready : (w : PlainSetting) (cells : List Cell) (l : Label) (c : Cell) → CellReady w cells c → FoundReady w cells (entry_in l c)
entry_ready w cells l (cell.Scope es p) r = entries_ready w cells l es r
entry_ready w cells l (cell.Pair x y) r = tt
entry_ready w cells l (cell.Vector xs) r = tt
entry_ready w cells l (cell.Str text) r = tt
entry_ready w cells l (cell.Binds bs p) r = tt
entry_ready w cells l (cell.Transformer x) r = tt

up_ready : (w : PlainSetting) (cells : List Cell) (f : Option Place → Option (Option Value)) → ((o : Option Place) → FoundReady w cells (f o)) → (p : Option (Option Place)) → FoundReady w cells (upwards f p)
up_ready w cells f k None = tt
up_ready w cells f k (Some o) = k o

module _ (w : PlainSetting) (cells : List Cell) (world : WholeWorld w cells) where
  found_ready : (l : Label) (n : ℕ) (o : Option Place) → FoundReady w cells (found n w.globals cells l o)
  found_ready l zero o = tt
  found_ready l (suc n) None = by_global (lookup (same_label l) w.globals) (globals_ready w cells l w.globals world.globals)
    where
      by_global : (o : Option Value) → ValueOr (ValueReady w cells) o → FoundReady w cells (option_map (λ v. Some v) o)
      by_global None r = tt
      by_global (Some v) r = r
  found_ready l (suc n) (Some place) = by_cell (found_ready l n) (slice_get cells place.0) refl
    where
      by_cell : ((o : Option Place) → FoundReady w cells (found n w.globals cells l o)) → (o : Option Cell) → slice_get cells place.0 ≡ o
          → FoundReady w cells (here_or_up (entry_in l) (found n w.globals cells l) o)
      by_cell again None e = tt
      by_cell again (Some c) e =
          or_ready w cells (entry_in l c) (upwards (found n w.globals cells l) (parent_in c)) (entry_ready w cells l c (world.values place.0 c e))
          (up_ready w cells (found n w.globals cells l) again (parent_in c))

well_read : (w : PlainSetting) (l : Label) (s : WorldState) (n : ℕ) (o : Option (Option Value)) → WholeWorld w s.cells → IsTrue (is_found o) → FoundReady w s.cells o → EndsWell w s.cells (variable_read w l s n o)
well_read w l s n None world h r = absurd (cc)
well_read w l s n (Some None) world h r = (grows_refl s.cells, world)
well_read w l s n (Some (Some v)) world h r = (grows_refl s.cells, (world, r))

well_variable : (w : PlainSetting) (l : Label) (scope : Place) (s : WorldState) (n : ℕ) → WholeWorld w s.cells → FoundFrom w s.cells (Some scope) l → EndsWell w s.cells (variable_value w l scope s n)
unfolding variable_value
well_variable w l scope s n world h =
    well_read w l s n (found (suc (length s.cells)) w.globals s.cells l (Some scope)) world h (found_ready w s.cells world l (suc (length s.cells)) (Some scope))

-- Values that stand together.

length_both : (xs ys : List Value) → length (xs ++ ys) ≡ length xs + length ys
length_both [] ys = omega arith
length_both (x ∷ xs) ys = omega (arith, length_both xs ys)

-- all but the last of so many, and the last
abbrev PartedWell : PlainSetting → List Cell → ℕ → Option (List Value × Value) → Type 0
PartedWell w cells count None = count ≡ 0
PartedWell w cells count (Some p) = ValuesReady w cells p.0 × (ValueReady w cells p.1 × (length p.0 + 1 ≡ count))

parted_well : (w : PlainSetting) (cells : List Cell) (xs : List Value) → ValuesReady w cells xs → PartedWell w cells (length xs) (parted xs)
parted_well w cells [] r = refl
parted_well w cells (x ∷ xs) r = by_rest (parted xs) (parted_well w cells xs r.1)
  where
    by_rest : (o : Option (List Value × Value)) → PartedWell w cells (length xs) o → PartedWell w cells (suc (length xs)) (Some (before_last x o))
    by_rest None e = (tt, (r.0, omega (arith, e)))
    by_rest (Some p) k = ((r.0, k.0), (k.1.0, omega (arith, k.1.1)))

-- the arguments of `apply` are all values but the first
abbrev OrRest : List Value → Option (List Value) → Type 0
OrRest vs None = Unit {0}
OrRest vs (Some ws) = vs ≡ ws

args_are_rest : (f : Value) (vs : List Value) → OrRest vs (apply_args (f ∷ vs))
args_are_rest (value.Prim op) vs = by_op (nat_eq op.0 names.APPLY)
  where
    by_op : (t : Bool) → OrRest vs (if t then Some vs else None)
    by_op true = refl
    by_op false = tt
args_are_rest value.Unspecified vs = tt
args_are_rest (value.Atom x) vs = tt
args_are_rest (value.Symbol x) vs = tt
args_are_rest (value.Pair p) vs = tt
args_are_rest (value.Vector p) vs = tt
args_are_rest (value.Str p) vs = tt
args_are_rest (value.Closure c p) vs = tt
args_are_rest (value.Syn t) vs = tt
args_are_rest (value.Transformer p) vs = tt

-- `apply`, where the calls to which it leads end well. So many turns are left.
module _ (w : PlainSetting) (s : WorldState) (world : WholeWorld w s.cells) (turns : ℕ) (again : CallBy)
    (well : (f : Value) (vs : List Value) (m : ℕ) → m + length (f ∷ vs) < turns → ValuesReady w s.cells (f ∷ vs) → EndsWell w s.cells (again (f ∷ vs) m)) where
  well_elements : (x : Value) (xs : List Value) (n : ℕ) → n + length (x ∷ xs) < turns → ValuesReady w s.cells (x ∷ xs) → (o : Option (List Value)) → ValuesOr (ValueReady w s.cells) o
      → EndsWell w s.cells (with_elements (x ∷ xs) s again n o)
  well_elements x xs n less r None k = (grows_refl s.cells, world)
  well_elements x xs n less r (Some ys) k =
      well_charged w (length ys) s n (again ((x ∷ xs) ++ ys)) world
      (λ m e. well x (xs ++ ys) m (omega (arith, less, e, length_both xs ys)) (each-append (ValueReady w s.cells) (x ∷ xs) ys r k))

  well_front : (front : List Value) (last : Value) (n : ℕ) → n + length front < turns → ValuesReady w s.cells front → EndsWell w s.cells (with_front front last s again n)
  well_front [] last n less r = (grows_refl s.cells, world)
  well_front (x ∷ xs) last n less r = well_elements x xs n less r (list_elements s.cells last) (elements_hold (ValueReady w s.cells) s.cells (all_read_ready w s.cells world) last)

  well_parts : (count n : ℕ) → n + count < suc turns → (o : Option (List Value × Value)) → PartedWell w s.cells count o → EndsWell w s.cells (on_parts s again n o)
  well_parts count n less None e = (grows_refl s.cells, world)
  well_parts count n less (Some p) k = well_front p.0 p.1 n (omega (arith, less, k.1.1)) k.0

  well_once : (args : List Value) (n : ℕ) → n + length args < suc turns → ValuesReady w s.cells args → EndsWell w s.cells (spread_once args s again n)
  unfolding spread_once
  well_once args n less r = well_parts (length args) n less (parted args) (parted_well w s.cells args r)

module _ (w : PlainSetting) (s : WorldState) (world : WholeWorld w s.cells) (go : CallBy)
    (well : (f : Value) (vs : List Value) (m : ℕ) → ValuesReady w s.cells (f ∷ vs) → EndsWell w s.cells (go (f ∷ vs) m)) where
  well_to : (turns : ℕ) (f : Value) (vs : List Value) (n : ℕ) → n + length (f ∷ vs) < turns → ValuesReady w s.cells (f ∷ vs) → EndsWell w s.cells (spread_to turns s go (f ∷ vs) n)
  well_to zero f vs n less r = absurd (omega (arith, less))
  well_to (suc turns) f vs n less r = by_args (well_to turns) (apply_args (f ∷ vs)) (args_are_rest f vs)
    where
      by_args : ((g : Value) (us : List Value) (m : ℕ) → m + length (g ∷ us) < turns → ValuesReady w s.cells (g ∷ us) → EndsWell w s.cells (spread_to turns s go (g ∷ us) m))
          → (o : Option (List Value)) → OrRest vs o → EndsWell w s.cells (spread_on s (spread_to turns s go) (go (f ∷ vs)) n o)
      by_args again None h = well f vs n r
      by_args again (Some ws) h =
          subst (λ (us : List Value). EndsWell w s.cells (spread_once us s (spread_to turns s go) n)) h
          (well_once w s world turns (spread_to turns s go) again vs n (omega (arith, less)) r.1)

  well_spread : (f : Value) (vs : List Value) (n : ℕ) → ValuesReady w s.cells (f ∷ vs) → EndsWell w s.cells (spread s go (f ∷ vs) n)
  unfolding spread
  well_spread f vs n r = well_to (suc (n + length (f ∷ vs))) f vs n (omega arith) r

-- an evaluator that never meets cells that don't fit
abbrev NeverStuckBy : PlainSetting → Evaluator → Type 0
NeverStuckBy w E = (c : PlainCore) (scope : Place) (s : WorldState) (n : ℕ) → WholeWorld w s.cells → HasScope s.cells scope → ReadyIn w s.cells (Some scope) c
    → EndsWell w s.cells (E c scope s n)

module _ (w : PlainSetting) (E : Evaluator) (ns : NeverStuckBy w E) (texts : TextsGive E) where
  -- Calls.

  well_case : (parent : Place) (args : List Value) (s : WorldState) (n : ℕ) (cs : PlainCases) → WholeWorld w s.cells → HasScope s.cells parent → CasesReadyIn w s.cells (Some parent) cs
      → ValuesReady w s.cells args → (x : Option (Formals × PlainCore)) → first_case cs (length args) ≡ x → EndsWell w s.cells (by_case w E parent args s n x)
  well_case parent args s n cs world has ready r None e = (grows_refl s.cells, world)
  well_case parent args s n cs world has ready r (Some x) e =
      let F = FoundFrom w s.cells (Some parent) in
      let G = BoundFrom s.cells (Some parent) in
      let ls = formals_labels x.0 in
      let it = case_ready w F G (length args) cs x ready e in
      let p = bindings x.0.rest x.0.required args s.cells in
      let b = bindings_good w x.0.rest x.0.required args s.cells world r in
      let new = p.1 ++ cell.Scope p.0 (Some parent) ∷ [] in
      let inner : Place = record { 0 = length p.1 } in
      let still = variables_still s.cells p.1 b.grows parent.0 has in
      well_later w s.cells new (E x.1 inner (store new s.names) n) (grows_then s.cells p.1 new b.grows (grows_added p.1 (cell.Scope p.0 (Some parent))))
      (ns x.1 inner (store new s.names) n (scope_added w p.1 p.0 parent b.world b.ready still) (has_added p.1 (cell.Scope p.0 (Some parent)) refl)
      (ready_map w w (λ number code k. k) (Besides ls F) (FoundFrom w new (Some inner)) G (BoundFrom new (Some inner))
      (λ l h. scope_finds w p.1 p.0 (Some parent) ls (λ m k. formals_found m x.0.rest x.0.required args s.cells it.takes_it k) l
      (besides_map ls F (FoundFrom w p.1 (Some parent)) (from_still w s.cells p.1 b.grows (Some parent)) l h))
      (λ l d h. scope_binds w p.1 p.0 (Some parent) l d (bound_from_still w s.cells p.1 b.grows (Some parent) l d h)) x.1 it.ready))

  well_code : (parent : Place) (args : List Value) (s : WorldState) (n : ℕ) → WholeWorld w s.cells → HasScope s.cells parent → ValuesReady w s.cells args
      → (x : Option PlainCode) → CodeReady w s.cells parent x → EndsWell w s.cells (by_code w E parent args s n x)
  well_code parent args s n world has r None ready = absurd ready
  well_code parent args s n world has r (Some code) ready = well_case parent args s n code.cases world has ready r (first_case code.cases (length args)) refl

  well_procedure : (number : CodeNo) (parent : Place) (args : List Value) (s : WorldState) (n : ℕ) → WholeWorld w s.cells → ValueReady w s.cells (value.Closure number parent) → ValuesReady w s.cells args
      → EndsWell w s.cells (procedure_called w E number parent args s n)
  unfolding procedure_called
  well_procedure number parent args s n world f r = well_code parent args s n world f.fits r (code_at w.codes number) f.ready

  well_text_value : (args : List Value) (v : Value) (s : WorldState) (n : ℕ) → WholeWorld w s.cells → ValueReady w s.cells v → IsProcedure v → ValuesReady w s.cells args
      → EndsWell w s.cells (text_value_called w E args v s n)
  well_text_value args (value.Closure number parent) s n world f is r = well_procedure number parent args s n world f r
  well_text_value args value.Unspecified s n world f is r = absurd is
  well_text_value args (value.Atom x) s n world f is r = absurd is
  well_text_value args (value.Symbol x) s n world f is r = absurd is
  well_text_value args (value.Pair p) s n world f is r = absurd is
  well_text_value args (value.Vector p) s n world f is r = absurd is
  well_text_value args (value.Str p) s n world f is r = absurd is
  well_text_value args (value.Prim op) s n world f is r = absurd is
  well_text_value args (value.Syn t) s n world f is r = absurd is
  well_text_value args (value.Transformer p) s n world f is r = absurd is

  well_given : (cells : List Cell) (args : List Value) (o : Outcome) → EndsWell w cells o → GivesClosure o → ValuesReady w cells args → EndsWell w cells (then_do o (text_value_called w E args))
  well_given cells args (done v s n) h is r =
      well_later w cells s.cells (text_value_called w E args v s n) h.0 (well_text_value args v s n h.1.0 h.1.1 is (values_still w cells s.cells h.0 args r))
  well_given cells args (faulted f s n) h is r = h
  well_given cells args unfit h is r = h

  well_text : (args : List Value) (s : WorldState) (n : ℕ) → WholeWorld w s.cells → ValuesReady w s.cells args → (x : Option PlainCore) → TextReady w s.cells x → EndsWell w s.cells (by_text w E args s n x)
  well_text args s n world r None ready = absurd ready
  well_text args s n world r (Some body) ready =
      let c = cell.Scope [] None in
      let new = s.cells ++ c ∷ [] in
      let inner = next_place s in
      let o = E body inner (store new s.names) n in
      well_later w s.cells new (then_do o (text_value_called w E args)) (grows_added s.cells c)
      (well_given new args o
      (ns body inner (store new s.names) n (first_scope_added w s.cells world) (has_added s.cells c refl)
      (ready_map w w (λ number code k. k) (FoundFrom w s.cells None) (FoundFrom w new (Some inner)) (BoundFrom s.cells None) (BoundFrom new (Some inner))
      (scope_finds_all w s.cells [] None) (scope_binds w s.cells [] None) body ready.1))
      (texts body inner (store new s.names) n ready.0) (values_still w s.cells new (grows_added s.cells c) args r))

  well_op : (op : Op) (args : List Value) (s : WorldState) (n : ℕ) → WholeWorld w s.cells → ValuesReady w s.cells args → EndsWell w s.cells (op_called w E op args s n)
  unfolding op_called
  well_op op args s n world r = by_test (has_text op.0) refl
    where
      by_test : (t : Bool) → has_text op.0 ≡ t
          → EndsWell w s.cells (if t then by_text w E args s n (text_body (code_at w.codes (text_number op.0))) else primitive_called w op.0 args s n)
      by_test true e = well_text args s n world r (text_body (code_at w.codes (text_number op.0))) (world.texts op.0 e)
      by_test false e = well_primitive w op.0 args s n world r

  well_value : (f : Value) (args : List Value) (s : WorldState) (n : ℕ) → WholeWorld w s.cells → ValuesReady w s.cells (f ∷ args) → EndsWell w s.cells (value_called w E f args s n)
  well_value (value.Closure number parent) args s n world r = well_procedure number parent args s n world r.0 r.1
  well_value (value.Prim op) args s n world r = well_op op args s n world r.1
  well_value value.Unspecified args s n world r = (grows_refl s.cells, world)
  well_value (value.Atom x) args s n world r = (grows_refl s.cells, world)
  well_value (value.Symbol x) args s n world r = (grows_refl s.cells, world)
  well_value (value.Pair p) args s n world r = (grows_refl s.cells, world)
  well_value (value.Vector p) args s n world r = (grows_refl s.cells, world)
  well_value (value.Str p) args s n world r = (grows_refl s.cells, world)
  well_value (value.Syn t) args s n world r = (grows_refl s.cells, world)
  well_value (value.Transformer p) args s n world r = (grows_refl s.cells, world)

  well_first : (s : WorldState) → WholeWorld w s.cells → (f : Value) (args : List Value) (n : ℕ) → ValuesReady w s.cells (f ∷ args) → EndsWell w s.cells (first_called w E s (f ∷ args) n)
  unfolding first_called
  well_first s world f args n r = well_value f args s n world r

  pub well_applied : (f : Value) (args : List Value) (s : WorldState) (n : ℕ) → WholeWorld w s.cells → ValuesReady w s.cells (f ∷ args) → EndsWell w s.cells (applied w E (f ∷ args) s n)
  unfolding applied
  well_applied f args s n world r = well_spread w s world (first_called w E s) (well_first s world) f args n r

  -- Parts in order.

  well_operands : (cs : PlainCores) (scope : Place) (f : Value) (vs : List Value) (s : WorldState) (n : ℕ) → WholeWorld w s.cells → HasScope s.cells scope → AllReadyIn w s.cells (Some scope) cs
      → ValuesReady w s.cells (f ∷ vs) → EndsWell w s.cells (operands w E cs scope (f ∷ vs) s n)
  well_operands none scope f vs s n world has ready r = well_applied f vs s n world r
  well_operands (more c cs) scope f vs s n world has ready r =
      well_then w s.cells (E c scope s n) (λ v. operands w E cs scope ((f ∷ vs) ++ v ∷ [])) (ns c scope s n world has ready.0)
      (λ v t m g whole k. well_operands cs scope f (vs ++ v ∷ []) t m whole (variables_still s.cells t.cells g scope.0 has) (all_still w s.cells t.cells g (Some scope) cs ready.1)
      (each-and (ValueReady w t.cells) (f ∷ vs) v (values_still w s.cells t.cells g (f ∷ vs) r) k))

  well_sequence : (c : PlainCore) (cs : PlainCores) (scope : Place) (s : WorldState) (n : ℕ) → WholeWorld w s.cells → HasScope s.cells scope → ReadyIn w s.cells (Some scope) c
      → AllReadyIn w s.cells (Some scope) cs → EndsWell w s.cells (in_sequence w E (more c cs) scope s n)
  well_sequence c none scope s n world has first ready = ns c scope s n world has first
  well_sequence c (more d cs) scope s n world has first ready =
      well_then w s.cells (E c scope s n) (λ v. in_sequence w E (more d cs) scope) (ns c scope s n world has first)
      (λ v t m g whole k. well_sequence d cs scope t m whole (variables_still s.cells t.cells g scope.0 has) (ready_still w s.cells t.cells g (Some scope) d ready.0) (all_still w s.cells t.cells g (Some scope) cs ready.1))

  -- `letrec`

  well_in_turn : (is : PlainInits) (body : PlainCore) (scope : Place) (s : WorldState) (n : ℕ) → WholeWorld w s.cells → HasScope s.cells scope → InitsReadyIn w s.cells (Some scope) is
      → ReadyIn w s.cells (Some scope) body → EndsWell w s.cells (in_turn w E is body scope s n)
  well_in_turn no_init body scope s n world has ready last = ns body scope s n world has last
  well_in_turn (init l c is) body scope s n world has ready last =
      well_then w s.cells (E c scope s n) (λ v t. in_turn w E is body scope (store (assigned t.cells scope l v) t.names)) (ns c scope s n world has ready.0)
      (λ v t m g whole k. by_cells v t m g whole k (well_in_turn is body scope))
    where
      by_cells : (v : Value) (t : WorldState) (m : ℕ) → WorldGrowth s.cells t.cells → WholeWorld w t.cells → ValueReady w t.cells v
          → ((u : WorldState) (m : ℕ) → WholeWorld w u.cells → HasScope u.cells scope → InitsReadyIn w u.cells (Some scope) is → ReadyIn w u.cells (Some scope) body → EndsWell w u.cells (in_turn w E is body scope u m))
          → EndsWell w t.cells (in_turn w E is body scope (store (assigned t.cells scope l v) t.names) m)
      by_cells v t m g whole k again =
          let cells = assigned t.cells scope l v in
          let all = grows_then s.cells t.cells cells g (grows_assigned t.cells scope l v) in
          well_later w t.cells cells (in_turn w E is body scope (store cells t.names) m) (grows_assigned t.cells scope l v)
          (again (store cells t.names) m (world_assigned w t.cells scope l v whole k) (variables_still s.cells cells all scope.0 has)
          (inits_still w s.cells cells all (Some scope) is ready.1) (ready_still w s.cells cells all (Some scope) body last))

  well_at_once : (is all : PlainInits) (body : PlainCore) (scope : Place) (vs : List Value) (s : WorldState) (n : ℕ) → WholeWorld w s.cells → HasScope s.cells scope → InitsReadyIn w s.cells (Some scope) is
      → ReadyIn w s.cells (Some scope) body → ValuesReady w s.cells vs → EndsWell w s.cells (at_once w E is (record { variables = all; body = body; scope = scope }) vs s n)
  well_at_once no_init all body scope vs s n world has ready last r =
      let cells = all_assigned s.cells scope all vs in
      let g = grows_all_assigned s.cells scope all vs in
      well_later w s.cells cells (E body scope (store cells s.names) n) g
      (ns body scope (store cells s.names) n (world_all_assigned w s.cells scope all vs world r) (variables_still s.cells cells g scope.0 has) (ready_still w s.cells cells g (Some scope) body last))
  well_at_once (init l c is) all body scope vs s n world has ready last r =
      well_then w s.cells (E c scope s n) (λ v. at_once w E is (record { variables = all; body = body; scope = scope }) (vs ++ v ∷ [])) (ns c scope s n world has ready.0)
      (λ v t m g whole k. well_at_once is all body scope (vs ++ v ∷ []) t m whole (variables_still s.cells t.cells g scope.0 has) (inits_still w s.cells t.cells g (Some scope) is ready.1)
      (ready_still w s.cells t.cells g (Some scope) body last) (each-and (ValueReady w t.cells) vs v (values_still w s.cells t.cells g vs r) k))

  well_by : (in_order : Bool) (is : PlainInits) (body : PlainCore) (scope : Place) (s : WorldState) (n : ℕ) → WholeWorld w s.cells → HasScope s.cells scope → InitsReadyIn w s.cells (Some scope) is
      → ReadyIn w s.cells (Some scope) body → EndsWell w s.cells (by_letrec w E in_order (record { variables = is; body = body; scope = scope }) s n)
  well_by true is body scope s n world has ready last = well_in_turn is body scope s n world has ready last
  well_by false is body scope s n world has ready last = well_at_once is is body scope [] s n world has ready last tt

  well_letrec : (in_order : Bool) (is : PlainInits) (body : PlainCore) (scope : Place) (s : WorldState) (n : ℕ) → WholeWorld w s.cells → HasScope s.cells scope → ReadyIn w s.cells (Some scope) (letrec in_order is body)
      → EndsWell w s.cells (by_letrec w E in_order (record { variables = is; body = body; scope = next_place s }) (with_cell (cell.Scope (unset is) (Some scope)) s) n)
  well_letrec in_order is body scope s n world has ready =
      let F = FoundFrom w s.cells (Some scope) in
      let G = BoundFrom s.cells (Some scope) in
      let ls = init_labels is in
      let c = cell.Scope (unset is) (Some scope) in
      let new = s.cells ++ c ∷ [] in
      let inner = next_place s in
      let finds = scope_finds w s.cells (unset is) (Some scope) ls (λ l h. unset_found l is h) in
      let binds = scope_binds w s.cells (unset is) (Some scope) in
      well_later w s.cells new (by_letrec w E in_order (record { variables = is; body = body; scope = inner }) (store new s.names) n) (grows_added s.cells c)
      (well_by in_order is body inner (store new s.names) n (scope_added w s.cells (unset is) scope world (unset_ready w s.cells is) has) (has_added s.cells c refl)
      (inits_map w w (λ number code k. k) (Besides ls F) (FoundFrom w new (Some inner)) G (BoundFrom new (Some inner)) finds binds is ready.0)
      (ready_map w w (λ number code k. k) (Besides ls F) (FoundFrom w new (Some inner)) G (BoundFrom new (Some inner)) finds binds body ready.1))

  -- `syntax-case`

  -- code that is ready round the cell of a match, with the variables of the pattern, is ready in it
  in_match : (p : PlainPattern) (f : PatternBinds) (scope : Place) (cells : List Cell) (c : PlainCore) → MatchReady w cells p f
      → Ready w (FoundFrom w cells (Some scope)) (BesidesPattern (depths 0 p) (BoundFrom cells (Some scope))) c
      → ReadyIn w (cells ++ cell.Binds f.binds (Some scope) ∷ []) (Some (record { 0 = length cells })) c
  in_match p f scope cells c it ready =
      let new = cells ++ cell.Binds f.binds (Some scope) ∷ [] in
      let inner : Place = record { 0 = length cells } in
      ready_map w w (λ number code k. k) (FoundFrom w cells (Some scope)) (FoundFrom w new (Some inner)) (BesidesPattern (depths 0 p) (BoundFrom cells (Some scope))) (BoundFrom new (Some inner))
      (pattern_finds w cells f.binds (Some scope)) (pattern_binds w cells f.binds (Some scope) (depths 0 p) it.bound) c ready

  -- in the cell of a match
  well_inside : (p : PlainPattern) (f : PatternBinds) (scope : Place) (c : PlainCore) (s : WorldState) (n : ℕ) → WholeWorld w s.cells → HasScope s.cells scope → MatchReady w s.cells p f
      → Ready w (FoundFrom w s.cells (Some scope)) (BesidesPattern (depths 0 p) (BoundFrom s.cells (Some scope))) c
      → EndsWell w (s.cells ++ cell.Binds f.binds (Some scope) ∷ []) (E c (next_place s) (with_cell (cell.Binds f.binds (Some scope)) s) n)
  well_inside p f scope c s n world has it ready =
      let b = cell.Binds f.binds (Some scope) in
      ns c (next_place s) (with_cell b s) n (binds_added w s.cells f.binds scope world it.ready has) (has_added s.cells b refl) (in_match p f scope s.cells c it ready)

  well_tried : (cs : PlainClauses) (v : Value) (scope : Place) (s : WorldState) (n : ℕ) → WholeWorld w s.cells → HasScope s.cells scope → ClausesReadyIn w s.cells (Some scope) cs → ValueReady w s.cells v
      → EndsWell w s.cells (tried w E cs v scope s n)
  unfolding tried
  well_tried no_clause v scope s n world has ready r = (grows_refl s.cells, world)
  well_tried (clause p output cs) v scope s n world has ready r =
      well_charged w 1 s n (λ m. on_match w E (tried w E cs v scope) (output_given w E output scope) s m (match_of w.frames s.cells p v)) world
      (λ m e. by_match m (match_of w.frames s.cells p v) refl (well_tried cs v scope s m world has ready.1 r))
    where
      by_match : (m : ℕ) (o : Option PatternBinds) → match_of w.frames s.cells p v ≡ o → EndsWell w s.cells (tried w E cs v scope s m)
          → EndsWell w s.cells (on_match w E (tried w E cs v scope) (output_given w E output scope) s m o)
      by_match m None e next = next
      by_match m (Some f) e next =
          let b = cell.Binds f.binds (Some scope) in
          well_charged w f.taken s m (output_given w E output scope f s) world
          (λ k h. well_later w s.cells (s.cells ++ b ∷ []) (output_given w E output scope f s k) (grows_added s.cells b)
          (well_inside p f scope output s k world has (match_ready w s.cells p v f world r e) ready.0))
  well_tried (fended p fender output cs) v scope s n world has ready r =
      well_charged w 1 s n (λ m. on_match w E (tried w E cs v scope) (fender_asked w E fender (clause_before w E output cs v scope)) s m (match_of w.frames s.cells p v)) world
      (λ m e. by_match m (match_of w.frames s.cells p v) refl (well_tried cs v))
    where
      by_match : (m : ℕ) (o : Option PatternBinds) → match_of w.frames s.cells p v ≡ o
          → ((place : Place) (t : WorldState) (k : ℕ) → WholeWorld w t.cells → HasScope t.cells place → ClausesReadyIn w t.cells (Some place) cs → ValueReady w t.cells v → EndsWell w t.cells (tried w E cs v place t k))
          → EndsWell w s.cells (on_match w E (tried w E cs v scope) (fender_asked w E fender (clause_before w E output cs v scope)) s m o)
      by_match m None e next = next scope s m world has ready.1.1 r
      by_match m (Some f) e next =
          let b = cell.Binds f.binds (Some scope) in
          let new = s.cells ++ b ∷ [] in
          let it = match_ready w s.cells p v f world r e in
          well_charged w f.taken s m (fender_asked w E fender (clause_before w E output cs v scope) f s) world
          (λ k h. well_later w s.cells new (fender_asked w E fender (clause_before w E output cs v scope) f s k) (grows_added s.cells b)
          (well_then w new (E fender (next_place s) (with_cell b s) k) (fender_passed w E (clause_before w E output cs v scope) (next_place s))
          (well_inside p f scope fender s k world has it ready.0)
          (λ x t j g whole y.
          well_if w t.cells (truth_of x) (E output (next_place s) t j) (tried w E cs v scope t j)
          (ns output (next_place s) t j whole (variables_still new t.cells g (length s.cells) (has_added s.cells b refl))
          (ready_still w new t.cells g (Some (next_place s)) output (in_match p f scope s.cells output it ready.1.0)))
          (next scope t j whole (variables_still s.cells t.cells (grows_then s.cells new t.cells (grows_added s.cells b) g) scope.0 has)
          (clauses_still w s.cells t.cells (grows_then s.cells new t.cells (grows_added s.cells b) g) (Some scope) cs ready.1.1)
          (value_still w s.cells t.cells (grows_then s.cells new t.cells (grows_added s.cells b) g) v r)))))

  -- Expressions.

  well_expressed : (c : PlainCore) (scope : Place) (s : WorldState) (n : ℕ) → WholeWorld w s.cells → HasScope s.cells scope → ReadyIn w s.cells (Some scope) c → EndsWell w s.cells (expressed w E c scope s n)
  well_expressed (quoted d) scope s n world has ready = well_quoted w d s n world
  well_expressed (variable l) scope s n world has ready = well_variable w l scope s n world ready
  well_expressed (primitive op) scope s n world has ready = (grows_refl s.cells, (world, record { fits = tt; ready = tt }))
  well_expressed (one_armed c d) scope s n world has ready =
      well_then w s.cells (E c scope s n) (one_arm w E d scope) (ns c scope s n world has ready.0)
      (λ v t m g whole k. well_if w t.cells (truth_of v) (E d scope t m) (done value.Unspecified t m)
      (ns d scope t m whole (variables_still s.cells t.cells g scope.0 has) (ready_still w s.cells t.cells g (Some scope) d ready.1))
      (grows_refl t.cells, (whole, record { fits = tt; ready = tt })))
  well_expressed (two_armed c d e) scope s n world has ready =
      well_then w s.cells (E c scope s n) (two_arms w E d e scope) (ns c scope s n world has ready.0)
      (λ v t m g whole k. well_if w t.cells (truth_of v) (E d scope t m) (E e scope t m)
      (ns d scope t m whole (variables_still s.cells t.cells g scope.0 has) (ready_still w s.cells t.cells g (Some scope) d ready.1.0))
      (ns e scope t m whole (variables_still s.cells t.cells g scope.0 has) (ready_still w s.cells t.cells g (Some scope) e ready.1.1)))
  well_expressed (assignment l c) scope s n world has ready = (grows_refl s.cells, world)
  well_expressed (sequence none) scope s n world has ready = absurd ready
  well_expressed (sequence (more c cs)) scope s n world has ready = well_sequence c cs scope s n world has ready.0 ready.1
  well_expressed (procedure number cs plain) scope s n world has ready =
      (grows_refl s.cells, (world, record { fits = has; ready = subst (λ o. CodeReady w s.cells scope o) (sym ready.0) ready.1 }))
  well_expressed (letrec in_order is c) scope s n world has ready = well_letrec in_order is c scope s n world has ready
  well_expressed (call c cs) scope s n world has ready =
      well_then w s.cells (E c scope s n) (λ f. operands w E cs scope (f ∷ [])) (ns c scope s n world has ready.0)
      (λ f t m g whole k. well_operands cs scope f [] t m whole (variables_still s.cells t.cells g scope.0 has) (all_still w s.cells t.cells g (Some scope) cs ready.1) (k, tt))
  well_expressed (instance t sp) scope s n world has ready = well_instance w t scope s n world ready
  well_expressed (matching c cs sp) scope s n world has ready =
      well_then w s.cells (E c scope s n) (λ v. tried w E cs v scope) (ns c scope s n world has ready.0)
      (λ v t m g whole k. well_tried cs v scope t m whole (variables_still s.cells t.cells g scope.0 has) (clauses_still w s.cells t.cells g (Some scope) cs ready.1) k)

  well_unrolled : NeverStuckBy w (unrolled w E)
  well_unrolled c scope s zero world has ready = (grows_refl s.cells, world)
  well_unrolled c scope s (suc n) world has ready = well_expressed c scope s n world has ready

module _ (w : PlainSetting) where
  well_evaluates : (depth : ℕ) → NeverStuckBy w (evaluates w depth)
  unfolding evaluates
  well_evaluates zero c scope s n world has ready = (grows_refl s.cells, world)
  well_evaluates (suc depth) c scope s n world has ready = well_unrolled w (evaluates w depth) (well_evaluates depth) (texts_give w depth) c scope s n world has ready

  pub well_eval_of : NeverStuckBy w (eval_of w)
  unfolding eval_of
  well_eval_of c scope s n world has ready = well_evaluates n c scope s n world has ready

  texts_eval_of : TextsGive (eval_of w)
  unfolding eval_of
  texts_eval_of c scope s n h = texts_give w n c scope s n h

  well_call : (f : Value) (args : List Value) (s : WorldState) (n : ℕ) → WholeWorld w s.cells → ValuesReady w s.cells (f ∷ args) → EndsWell w s.cells (applied w (eval_of w) (f ∷ args) s n)
  well_call f args s n world r = well_applied w (eval_of w) well_eval_of texts_eval_of f args s n world r

pub whole_ending : (w : PlainSetting) (cells : List Cell) (o : Outcome) → EndsWell w cells o → WholeEnding w o
whole_ending w cells (done v s n) h = h.1
whole_ending w cells (faulted f s n) h = h.1
whole_ending w cells unfit h = h

pub never_stuck : NeverStuck
never_stuck w c scope s n world has ready = whole_ending w s.cells (eval_of w c scope s n) (well_eval_of w c scope s n world has ready)

pub applied_never_stuck : AppliedNeverStuck
applied_never_stuck w f args s n world r = whole_ending w s.cells (applied w (eval_of w) (f ∷ args) s n) (well_call w f args s n world r)
