-- The evaluation of a library in a whole world leaves one in which the library's variables have values.
use Rattle.std.proofs.Common.{◌≡◌, ℕ, List, [], ◌∷◌, ◌++◌, Option, Some, None, Bool, true, false, cond, length, refl, ap, sym, subst, ◌∙◌, slice_get}
use Rattle.std.specs.Prelude.{IsTrue}
use Rattle.std.specs.Map.{lookup}
use Rattle.indexmap.specs.IndexMap.{insert_entry}
use Rattle.base_data.proofs.ElementLemmas.{each-at, each-of}
use Rattle.base_data.specs.Elements.{Each}
use Rattle.base_data.specs.declared.name.Label.{Label}
use Rattle.base_region.specs.declared.region.Place.{Place}
use Rattle.base_region.proofs.Laws.{slice_get-added, slice_get-replaced}
use Rattle.core_language.specs.Labels.{same_label}
use Rattle.core_language.specs.declared.record.Line.{Line}
use Rattle.core_language.specs.declared.record.Line.TheVariants as line
use Rattle.law_core.proofs.Decisions.{label_decides}
use Rattle.eval_value.specs.Cells.{VariableFits, is_found}
use Rattle.eval_value.specs.declared.value.Value.{Value}
use Rattle.eval_value.specs.declared.cell.Cell.{Cell}
use Rattle.eval_value.specs.declared.cell.Cell.TheVariants as cell
use Rattle.eval_code.specs.Codes.{Codes}
use Rattle.eval_code.specs.Evals.{setting_of, state_of}
use Rattle.eval_code.specs.Lines.{defined, with_lines, lines_from, with_value, with_values, with_values_in}
use Rattle.eval_code.specs.Meaning.{eval_of}
use Rattle.eval_code.specs.Setting.{PlainSetting}
use Rattle.eval_code.specs.State.{WorldState, Outcome, done, faulted, unfit, then_do, store, with_cell, next_place}
use Rattle.eval_code.specs.Variables.{Entries, entry_in, set_entry, cell_with, assigned_in, assigned}
use Rattle.law_whole.specs.Evaluated.{codes_of, lines_labels, LinesReady, LibraryReady, with_globals_from, LeavesLibrary, LibraryEnding, LibrariesNeverStuck}
use Rattle.law_whole.specs.Extends.{Stay, Extends}
use Rattle.law_whole.specs.Grows.{has_value, WorldGrowth}
use Rattle.law_whole.specs.PartsReady.{EndsWell}
use Rattle.law_whole.specs.Ready.{Variables, PatternVariables, Besides, is_one_of, FoundFrom, BoundFrom}
use Rattle.law_whole.specs.WholeWorld.{ValueReady, OptionReady, CellReady, WholeWorld}
use Rattle.law_whole.proofs.Among.{one_of}
use Rattle.law_whole.proofs.Evaluations.{world_extended, with_codes_whole}
use Rattle.law_whole.proofs.Growth.{grows_refl, grows_then, grows_assigned, variables_still, test_still, below_length}
use Rattle.law_whole.proofs.Steady.{ready_map, from_still, bound_from_still, globals_later}
use Rattle.law_whole.proofs.Stuck.{well_eval_of}
use Rattle.law_whole.proofs.Wells.{HasScope, well_later, well_then}
use Rattle.law_whole.proofs.Worlds.{world_added, world_assigned, has_added, scope_finds, scope_binds}

-- Lines of libraries.

lines_map : (w : PlainSetting) (F H : Variables) (G K : PatternVariables) → ((l : Label) → F l → H l) → ((l : Label) (d : ℕ) → G l d → K l d) → (ls : List Line) → LinesReady w F G ls → LinesReady w H K ls
lines_map w F H G K f g [] r = tt
lines_map w F H G K f g (line.Define l c ∷ ls) r = (ready_map w w (λ number code k. k) F H G K f g c r.0, lines_map w F H G K f g ls r.1)
lines_map w F H G K f g (line.Expr c ∷ ls) r = (ready_map w w (λ number code k. k) F H G K f g c r.0, lines_map w F H G K f g ls r.1)

-- in a cell of variables
abbrev ReadyThere : PlainSetting → List Cell → Place → List Line → Type 0
ReadyThere w cells scope ls = LinesReady w (FoundFrom w cells (Some scope)) (BoundFrom cells (Some scope)) ls

lines_still : (w : PlainSetting) (old new : List Cell) (scope : Place) (ls : List Line) → WorldGrowth old new → ReadyThere w old scope ls → ReadyThere w new scope ls
lines_still w old new scope ls g r =
    lines_map w (FoundFrom w old (Some scope)) (FoundFrom w new (Some scope)) (BoundFrom old (Some scope)) (BoundFrom new (Some scope))
    (from_still w old new g (Some scope)) (bound_from_still w old new g (Some scope)) ls r

well_lines : (w : PlainSetting) (ls : List Line) (scope : Place) (s : WorldState) (n : ℕ) → WholeWorld w s.cells → HasScope s.cells scope → ReadyThere w s.cells scope ls
    → EndsWell w s.cells (lines_from (eval_of w) ls scope s n)
well_lines w [] scope s n world has ready = (grows_refl s.cells, (world, record { fits = tt; ready = tt }))
well_lines w (line.Define l c ∷ ls) scope s n world has ready =
    well_then w s.cells (eval_of w c scope s n) (λ v t. lines_from (eval_of w) ls scope (store (assigned t.cells scope l v) t.names)) (well_eval_of w c scope s n world has ready.0)
    (λ v t m g whole k. by_cells v t m g whole k (well_lines w ls scope))
  where
    by_cells : (v : Value) (t : WorldState) (m : ℕ) → WorldGrowth s.cells t.cells → WholeWorld w t.cells → ValueReady w t.cells v
        → ((u : WorldState) (m : ℕ) → WholeWorld w u.cells → HasScope u.cells scope → ReadyThere w u.cells scope ls → EndsWell w u.cells (lines_from (eval_of w) ls scope u m))
        → EndsWell w t.cells (lines_from (eval_of w) ls scope (store (assigned t.cells scope l v) t.names) m)
    by_cells v t m g whole k again =
        let cells = assigned t.cells scope l v in
        let set = grows_assigned t.cells scope l v in
        let all = grows_then s.cells t.cells cells g set in
        well_later w t.cells cells (lines_from (eval_of w) ls scope (store cells t.names) m) set
        (again (store cells t.names) m (world_assigned w t.cells scope l v whole k) (variables_still s.cells cells all scope.0 has) (lines_still w s.cells cells scope ls all ready.1))
well_lines w (line.Expr c ∷ ls) scope s n world has ready =
    well_then w s.cells (eval_of w c scope s n) (λ v. lines_from (eval_of w) ls scope) (well_eval_of w c scope s n world has ready.0)
    (λ v t m g whole k. well_lines w ls scope t m whole (variables_still s.cells t.cells g scope.0 has) (lines_still w s.cells t.cells scope ls g ready.1))

-- Variables that have got values.

abbrev value_in : Label → Option Cell → Bool
value_in l None = false
value_in l (Some c) = has_value (entry_in l c)

abbrev entry_there : Label → Option Cell → Bool
entry_there l None = false
entry_there l (Some c) = is_found (entry_in l c)

-- a variable of the cell at a place, and one that has a value
abbrev IsThere : List Cell → ℕ → Label → Type 0
IsThere cells place l = IsTrue (entry_there l (slice_get cells place))

abbrev IsSet : List Cell → ℕ → Label → Type 0
IsSet cells place l = IsTrue (value_in l (slice_get cells place))

there_still : (old new : List Cell) → WorldGrowth old new → (place : ℕ) (l : Label) → IsThere old place l → IsThere new place l
there_still old new g place l h = test_still old new g (entry_there l) refl (λ c d s. s.entry l) place h

set_still : (old new : List Cell) → WorldGrowth old new → (place : ℕ) (l : Label) → IsSet old place l → IsSet new place l
set_still old new g place l h = by_cell (slice_get old place) refl h
  where
    by_cell : (o : Option Cell) → slice_get old place ≡ o → IsTrue (value_in l o) → IsSet new place l
    by_cell None e k = absurd (cc)
    by_cell (Some c) e k = let s = g.still place c e in subst (λ o. IsTrue (value_in l o)) (sym s.there) (s.same.value l k)

own_set : (l : Label) (v : Value) (es : Entries) → IsTrue (is_found (lookup (same_label l) es)) → IsTrue (has_value (lookup (same_label l) (set_entry l v es)))
own_set l v [] h = absurd (cc)
own_set l v (e ∷ es) h = by_own (same_label l e.0) refl (own_set l v es) h
  where
    by_own : (t : Bool) → same_label l e.0 ≡ t → (IsTrue (is_found (lookup (same_label l) es)) → IsTrue (has_value (lookup (same_label l) (set_entry l v es))))
        → IsTrue (is_found (cond t (Some e.1) (lookup (same_label l) es))) → IsTrue (has_value (lookup (same_label l) (cond t ((e.0, Some v) ∷ es) (e ∷ set_entry l v es))))
    by_own true k again j = ap (λ t. has_value (cond t (Some (Some v)) (lookup (same_label l) es))) k
    by_own false k again j = ap (λ t. has_value (cond t (Some e.1) (lookup (same_label l) (set_entry l v es)))) k ∙ again j

cell_set : (l : Label) (v : Value) (c : Cell) → IsTrue (is_found (entry_in l c)) → IsTrue (has_value (entry_in l (cell_with l v c)))
cell_set l v (cell.Scope es parent) h = own_set l v es h
cell_set l v (cell.Pair x y) h = absurd (cc)
cell_set l v (cell.Vector xs) h = absurd (cc)
cell_set l v (cell.Str text) h = absurd (cc)
cell_set l v (cell.Binds bs parent) h = absurd (cc)
cell_set l v (cell.Transformer x) h = absurd (cc)

assigned_set : (cells : List Cell) (place : Place) (l : Label) (v : Value) → IsThere cells place.0 l → IsSet (assigned cells place l v) place.0 l
assigned_set cells place l v h = by_cell (slice_get cells place.0) refl h
  where
    by_cell : (o : Option Cell) → slice_get cells place.0 ≡ o → IsTrue (entry_there l o) → IsSet (assigned_in cells place l v o) place.0 l
    by_cell None e k = absurd (cc)
    by_cell (Some c) e k =
        subst (λ o. IsTrue (value_in l o)) (sym (slice_get-replaced cells place.0 (cell_with l v c) (below_length cells place.0 c e))) (cell_set l v c k)

-- where lines come to their end, these variables have values
abbrev SetIn : ℕ → List Label → Outcome → Type 0
SetIn place ls (done v s n) = Each (λ l. IsSet s.cells place l) ls
SetIn place ls (faulted f s n) = Unit {0}
SetIn place ls unfit = Unit {0}

and_set : (w : PlainSetting) (cells : List Cell) (place : ℕ) (l : Label) (ls : List Label) (o : Outcome) → EndsWell w cells o → IsSet cells place l → SetIn place ls o → SetIn place (l ∷ ls) o
and_set w cells place l ls (done v s n) h k set = (set_still cells s.cells h.0 place l k, set)
and_set w cells place l ls (faulted f s n) h k set = tt
and_set w cells place l ls unfit h k set = tt

all_there : (old new : List Cell) → WorldGrowth old new → (place : ℕ) (ls : List Label) → Each (λ l. IsThere old place l) ls → Each (λ l. IsThere new place l) ls
all_there old new g place ls h = each-of (λ l. IsThere new place l) ls (λ l a. there_still old new g place l (each-at (λ m. IsThere old place m) ls l h a))

lines_set : (w : PlainSetting) (ls : List Line) (scope : Place) (s : WorldState) (n : ℕ) → WholeWorld w s.cells → HasScope s.cells scope → ReadyThere w s.cells scope ls
    → Each (λ l. IsThere s.cells scope.0 l) (lines_labels ls) → SetIn scope.0 (lines_labels ls) (lines_from (eval_of w) ls scope s n)
lines_set w [] scope s n world has ready there = tt
lines_set w (line.Define l c ∷ ls) scope s n world has ready there = by_end (eval_of w c scope s n) (well_eval_of w c scope s n world has ready.0) (lines_set w ls scope)
  where
    by_end : (o : Outcome) → EndsWell w s.cells o
        → ((u : WorldState) (m : ℕ) → WholeWorld w u.cells → HasScope u.cells scope → ReadyThere w u.cells scope ls → Each (λ l. IsThere u.cells scope.0 l) (lines_labels ls)
        → SetIn scope.0 (lines_labels ls) (lines_from (eval_of w) ls scope u m))
        → SetIn scope.0 (l ∷ lines_labels ls) (then_do o (λ v t. lines_from (eval_of w) ls scope (store (assigned t.cells scope l v) t.names)))
    by_end (done v t m) h again =
        let cells = assigned t.cells scope l v in
        let g = grows_then s.cells t.cells cells h.0 (grows_assigned t.cells scope l v) in
        let whole = world_assigned w t.cells scope l v h.1.0 h.1.1 in
        let still = variables_still s.cells cells g scope.0 has in
        let rest = lines_still w s.cells cells scope ls g ready.1 in
        and_set w cells scope.0 l (lines_labels ls) (lines_from (eval_of w) ls scope (store cells t.names) m) (well_lines w ls scope (store cells t.names) m whole still rest)
        (assigned_set t.cells scope l v (there_still s.cells t.cells h.0 scope.0 l there.0))
        (again (store cells t.names) m whole still rest (all_there s.cells cells g scope.0 (lines_labels ls) there.1))
    by_end (faulted f t m) h again = tt
    by_end unfit h again = tt
lines_set w (line.Expr c ∷ ls) scope s n world has ready there = by_end (eval_of w c scope s n) (well_eval_of w c scope s n world has ready.0) (lines_set w ls scope)
  where
    by_end : (o : Outcome) → EndsWell w s.cells o
        → ((u : WorldState) (m : ℕ) → WholeWorld w u.cells → HasScope u.cells scope → ReadyThere w u.cells scope ls → Each (λ l. IsThere u.cells scope.0 l) (lines_labels ls)
        → SetIn scope.0 (lines_labels ls) (lines_from (eval_of w) ls scope u m))
        → SetIn scope.0 (lines_labels ls) (then_do o (λ v. lines_from (eval_of w) ls scope))
    by_end (done v t m) h again =
        again t m h.1.0 (variables_still s.cells t.cells h.0 scope.0 has) (lines_still w s.cells t.cells scope ls h.0 ready.1) (all_there s.cells t.cells h.0 scope.0 (lines_labels ls) there)
    by_end (faulted f t m) h again = tt
    by_end unfit h again = tt

-- The values of a library's variables are added.

insert_ready : (w : PlainSetting) (cells : List Cell) (l : Label) (v : Value) (gs : List (Label × Value)) → ValueReady w cells v → Each (λ (e : Label × Value). ValueReady w cells e.1) gs
    → Each (λ (e : Label × Value). ValueReady w cells e.1) (insert_entry same_label gs l v)
insert_ready w cells l v [] r h = (r, tt)
insert_ready w cells l v (e ∷ gs) r h = by_own (same_label l e.0) (insert_ready w cells l v gs r h.1)
  where
    by_own : (t : Bool) → Each (λ (e : Label × Value). ValueReady w cells e.1) (insert_entry same_label gs l v)
        → Each (λ (e : Label × Value). ValueReady w cells e.1) (cond t ((e.0, v) ∷ gs) (e ∷ insert_entry same_label gs l v))
    by_own true k = (r, h.1)
    by_own false k = (h.0, k)

found_first : (t : Bool) (a b : Value) (r q : Option Value) → (IsTrue (is_found r) → IsTrue (is_found q)) → IsTrue (is_found (cond t (Some a) r)) → IsTrue (is_found (cond t (Some b) q))
found_first true a b r q k h = refl
found_first false a b r q k h = k h

insert_found : (m l : Label) (v : Value) (gs : List (Label × Value)) → IsTrue (is_found (lookup (same_label m) gs)) → IsTrue (is_found (lookup (same_label m) (insert_entry same_label gs l v)))
insert_found m l v [] h = absurd (cc)
insert_found m l v (e ∷ gs) h = by_own (same_label l e.0) (insert_found m l v gs) h
  where
    by_own : (t : Bool) → (IsTrue (is_found (lookup (same_label m) gs)) → IsTrue (is_found (lookup (same_label m) (insert_entry same_label gs l v))))
        → IsTrue (is_found (lookup (same_label m) (e ∷ gs))) → IsTrue (is_found (lookup (same_label m) (cond t ((e.0, v) ∷ gs) (e ∷ insert_entry same_label gs l v))))
    by_own true again k = found_first (same_label m e.0) e.1 v (lookup (same_label m) gs) (lookup (same_label m) gs) (λ x. x) k
    by_own false again k = found_first (same_label m e.0) e.1 e.1 (lookup (same_label m) gs) (lookup (same_label m) (insert_entry same_label gs l v)) again k

or_found : (t : Bool) (a : Value) (r : Option Value) → IsTrue (is_found r) → IsTrue (is_found (cond t (Some a) r))
or_found true a r h = refl
or_found false a r h = h

own_found : (l m : Label) (v : Value) (gs : List (Label × Value)) → l ≡ m → IsTrue (is_found (lookup (same_label l) (insert_entry same_label gs m v)))
own_found l m v [] h = ap (λ t. is_found (cond t (Some v) None)) ((label_decides l m).1 h)
own_found l m v (e ∷ gs) h = by_own (same_label m e.0) refl (own_found l m v gs h)
  where
    by_own : (t : Bool) → same_label m e.0 ≡ t → IsTrue (is_found (lookup (same_label l) (insert_entry same_label gs m v)))
        → IsTrue (is_found (lookup (same_label l) (cond t ((e.0, v) ∷ gs) (e ∷ insert_entry same_label gs m v))))
    by_own true k again = ap (λ t. is_found (cond t (Some v) (lookup (same_label l) gs))) ((label_decides l e.0).1 (h ∙ (label_decides m e.0).0 k))
    by_own false k again = or_found (same_label l e.0) e.1 (lookup (same_label l) (insert_entry same_label gs m v)) again

value_kept : (l m : Label) (o : Option Value) (gs : List (Label × Value)) → IsTrue (is_found (lookup (same_label l) gs)) → IsTrue (is_found (lookup (same_label l) (with_value m o gs)))
value_kept l m None gs h = h
value_kept l m (Some v) gs h = insert_found l m v gs h

values_kept : (l : Label) (es : Entries) (gs : List (Label × Value)) → IsTrue (is_found (lookup (same_label l) gs)) → IsTrue (is_found (lookup (same_label l) (with_values es gs)))
values_kept l [] gs h = h
values_kept l (e ∷ es) gs h = values_kept l es (with_value e.0 e.1 gs) (value_kept l e.0 e.1 gs h)

values_found : (l : Label) (es : Entries) (gs : List (Label × Value)) → IsTrue (has_value (lookup (same_label l) es)) → IsTrue (is_found (lookup (same_label l) (with_values es gs)))
values_found l [] gs h = absurd (cc)
values_found l ((m, o) ∷ es) gs h = by_own (same_label l m) refl o (λ fs. values_found l es fs) h
  where
    by_own : (t : Bool) → same_label l m ≡ t → (o : Option Value) → ((fs : List (Label × Value)) → IsTrue (has_value (lookup (same_label l) es)) → IsTrue (is_found (lookup (same_label l) (with_values es fs))))
        → IsTrue (has_value (cond t (Some o) (lookup (same_label l) es))) → IsTrue (is_found (lookup (same_label l) (with_values es (with_value m o gs))))
    by_own true k None again j = absurd (cc)
    by_own true k (Some v) again j = values_kept l es (insert_entry same_label gs m v) (own_found l m v gs ((label_decides l m).0 k))
    by_own false k o again j = again (with_value m o gs) j

cell_found : (l : Label) (o : Option Cell) (gs : List (Label × Value)) → IsTrue (value_in l o) → IsTrue (is_found (lookup (same_label l) (with_values_in o gs)))
cell_found l None gs h = absurd (cc)
cell_found l (Some (cell.Scope es parent)) gs h = values_found l es gs h
cell_found l (Some (cell.Pair x y)) gs h = absurd (cc)
cell_found l (Some (cell.Vector xs)) gs h = absurd (cc)
cell_found l (Some (cell.Str text)) gs h = absurd (cc)
cell_found l (Some (cell.Binds bs parent)) gs h = absurd (cc)
cell_found l (Some (cell.Transformer x)) gs h = absurd (cc)

-- all are ready, and what was found is found
record Adds (w : PlainSetting) (cells : List Cell) (old new : List (Label × Value)) : Type 0 where
  ready : Each (λ (e : Label × Value). ValueReady w cells e.1) new
  found : (l : Label) → IsTrue (is_found (lookup (same_label l) old)) → IsTrue (is_found (lookup (same_label l) new))

values_ready : (w : PlainSetting) (cells : List Cell) (es : Entries) (gs : List (Label × Value)) → Each (λ (e : Label × Option Value). OptionReady w cells e.1) es
    → Each (λ (e : Label × Value). ValueReady w cells e.1) gs → Each (λ (e : Label × Value). ValueReady w cells e.1) (with_values es gs)
values_ready w cells [] gs r h = h
values_ready w cells ((l, None) ∷ es) gs r h = values_ready w cells es gs r.1 h
values_ready w cells ((l, Some v) ∷ es) gs r h = values_ready w cells es (insert_entry same_label gs l v) r.1 (insert_ready w cells l v gs r.0 h)

cell_adds : (w : PlainSetting) (cells : List Cell) (c : Cell) (gs : List (Label × Value)) → CellReady w cells c → Each (λ (e : Label × Value). ValueReady w cells e.1) gs
    → Adds w cells gs (with_values_in (Some c) gs)
cell_adds w cells (cell.Scope es parent) gs r h = record { ready = values_ready w cells es gs r h; found = λ m k. values_kept m es gs k }
cell_adds w cells (cell.Pair x y) gs r h = record { ready = h; found = λ m k. k }
cell_adds w cells (cell.Vector xs) gs r h = record { ready = h; found = λ m k. k }
cell_adds w cells (cell.Str text) gs r h = record { ready = h; found = λ m k. k }
cell_adds w cells (cell.Binds bs parent) gs r h = record { ready = h; found = λ m k. k }
cell_adds w cells (cell.Transformer x) gs r h = record { ready = h; found = λ m k. k }

left_by : (w : PlainSetting) (cells : List Cell) (place : ℕ) (ls : List Label) → WholeWorld w cells → Each (λ l. IsSet cells place l) ls
    → LeavesLibrary w (with_globals_from w (slice_get cells place)) cells ls
left_by w cells place ls world set = by_cell (slice_get cells place) refl set
  where
    by_adds : (o : Option Cell) → Adds w cells w.globals (with_values_in o w.globals) → Each (λ l. IsTrue (value_in l o)) ls → LeavesLibrary w (with_globals_from w o) cells ls
    by_adds o a h =
        let v = with_globals_from w o in
        let x : Extends w v = record { codes = λ number code k. k; globals = a.found } in
        record {
          whole = world_extended w v x cells world (globals_later w v x cells cells (grows_refl cells) v.globals a.ready);
          defined = each-of (λ l. IsTrue (is_found (lookup (same_label l) v.globals))) ls (λ l k. cell_found l o w.globals (each-at (λ m. IsTrue (value_in m o)) ls l h k));
          kept = x;
        }

    by_cell : (o : Option Cell) → slice_get cells place ≡ o → Each (λ l. IsTrue (value_in l o)) ls → LeavesLibrary w (with_globals_from w o) cells ls
    by_cell None e h = by_adds None (record { ready = world.globals; found = λ m k. k }) h
    by_cell (Some c) e h = by_adds (Some c) (cell_adds w cells c w.globals (world.values place c e) world.globals) h

library_ending : (w : PlainSetting) (cells : List Cell) (place : ℕ) (ls : List Label) (o : Outcome) → EndsWell w cells o → SetIn place ls o → LibraryEnding w ls place o
library_ending w cells place ls (done v s n) h set = left_by w s.cells place ls h.1.0 set
library_ending w cells place ls (faulted f s n) h set = h.1
library_ending w cells place ls unfit h set = h

-- The cell of a library's variables.

defined_ready : (w : PlainSetting) (cells : List Cell) (ls : List Line) → Each (λ (e : Label × Option Value). OptionReady w cells e.1) (defined ls)
defined_ready w cells [] = tt
defined_ready w cells (line.Define l c ∷ ls) = (tt, defined_ready w cells ls)
defined_ready w cells (line.Expr c ∷ ls) = defined_ready w cells ls

defined_fit : (cells : List Cell) (ls : List Line) → Each (λ (e : Label × Option Value). VariableFits cells e.1) (defined ls)
defined_fit cells [] = tt
defined_fit cells (line.Define l c ∷ ls) = (tt, defined_fit cells ls)
defined_fit cells (line.Expr c ∷ ls) = defined_fit cells ls

defined_found : (l : Label) (ls : List Line) → IsTrue (is_one_of (lines_labels ls) l) → IsTrue (is_found (lookup (same_label l) (defined ls)))
defined_found l [] h = absurd (cc)
defined_found l (line.Define m c ∷ ls) h = by_own (same_label l m) (defined_found l ls) h
  where
    by_own : (t : Bool) → (IsTrue (is_one_of (lines_labels ls) l) → IsTrue (is_found (lookup (same_label l) (defined ls)))) → IsTrue (cond t true (is_one_of (lines_labels ls) l))
        → IsTrue (is_found (cond t (Some None) (lookup (same_label l) (defined ls))))
    by_own true again k = refl
    by_own false again k = again k
defined_found l (line.Expr c ∷ ls) h = defined_found l ls h

-- lines, after their codes were added
pub lines_never_stuck : (w : PlainSetting) (codes : Codes) (ls : List Line) (s : WorldState) (n : ℕ) → WholeWorld w s.cells → Stay w.codes codes → LibraryReady (record w { codes = codes }) s.cells ls
    → LibraryEnding (record w { codes = codes }) (lines_labels ls) (length s.cells) (lines_from (eval_of (record w { codes = codes })) ls (next_place s) (with_cell (cell.Scope (defined ls) None) s) n)
lines_never_stuck w codes ls s n world stay ready =
    let v : PlainSetting = record w { codes = codes } in
    let whole = with_codes_whole w v (record { codes = stay; globals = λ l h. h }) refl s.cells world in
    let c = cell.Scope (defined ls) None in
    let new = s.cells ++ c ∷ [] in
    let inner = next_place s in
    let there = world_added v s.cells c whole (defined_fit s.cells ls, tt) (defined_ready v s.cells ls) in
    let has = has_added s.cells c refl in
    let all = lines_map v (Besides (lines_labels ls) (FoundFrom v s.cells None)) (FoundFrom v new (Some inner)) (BoundFrom s.cells None) (BoundFrom new (Some inner))
    (scope_finds v s.cells (defined ls) None (lines_labels ls) (λ l h. defined_found l ls h)) (scope_binds v s.cells (defined ls) None) ls ready in
    library_ending v new (length s.cells) (lines_labels ls) (lines_from (eval_of v) ls inner (with_cell c s) n) (well_lines v ls inner (with_cell c s) n there has all)
    (lines_set v ls inner (with_cell c s) n there has all
    (each-of (λ l. IsThere new (length s.cells) l) (lines_labels ls)
    (λ l a. subst (λ o. IsTrue (entry_there l o)) (sym (slice_get-added s.cells c)) (defined_found l ls (one_of (lines_labels ls) l a)))))

pub libraries_never_stuck : LibrariesNeverStuck
libraries_never_stuck w ls n world stay ready = lines_never_stuck (setting_of w) (with_lines ls (codes_of w)) ls (state_of w) n world stay ready
