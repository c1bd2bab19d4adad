-- A whole world stays whole where a cell is added or a variable gets its value, and code is ready in a cell that holds the
-- variables round it.
use Rattle.std.proofs.Common.{◌≡◌, ◌≤◌, ◌<◌, ℕ, zero, suc, List, [], ◌∷◌, ◌++◌, Option, Some, None, Bool, true, false, cond, length, drop, refl, ap, sym, subst, ◌∙◌, arith, slice_get, slice_set, inl, inr}
use Rattle.std.specs.Prelude.{◌⊎◌, IsTrue, nat_eq, nat_le}
use Rattle.std.specs.Map.{lookup}
use Rattle.std.proofs.lemmas.Bool.Decides.{nat_tests}
use Rattle.std.proofs.lemmas.List.{append-nil}
use Rattle.base_data.proofs.ElementLemmas.{each-and, each-dropped}
use Rattle.base_data.specs.Elements.{Each}
use Rattle.base_data.specs.declared.atom.Atom.TheVariants as a
use Rattle.base_data.specs.declared.name.Label.{Label}
use Rattle.base_region.specs.declared.region.Place.{Place}
use Rattle.base_region.proofs.Laws.{slice_get-added, take-added}
use Rattle.stx_frames.specs.Scope.{or_else}
use Rattle.core_language.specs.Core.{PlainCore, PlainCases, no_case, case, PlainInits, no_init, init}
use Rattle.core_language.specs.Labels.{same_label}
use Rattle.core_language.specs.References.{formals_labels}
use Rattle.core_language.specs.declared.formals.Formals.{Formals}
use Rattle.law_core.specs.Parts.{init_labels}
use Rattle.law_core.specs.Templates.{Depths}
use Rattle.eval_value.specs.Bind.{PlainBind, one, many, PlainBinds, none, more}
use Rattle.eval_value.specs.Cells.{pair_in, has_variables, is_found, FitsIn, BindLies, BindsLie, VariableFits, CellLies}
use Rattle.eval_value.specs.FromDatum.{pairs_stored}
use Rattle.eval_value.specs.declared.value.Value.{Value}
use Rattle.eval_value.specs.declared.value.Value.TheVariants as value
use Rattle.eval_value.specs.declared.cell.Cell.{Cell}
use Rattle.eval_value.specs.declared.cell.Cell.TheVariants as cell
use Rattle.eval_value.proofs.Wholes.{lies_here, whole_added, added_found}
use Rattle.eval_code.specs.Procedures.{takes, takes_so_many, first_case, bound, bindings, text_number}
use Rattle.eval_code.specs.Setting.{PlainSetting}
use Rattle.eval_code.specs.Variables.{Entries, entry_in, bind_in, parent_in, upwards, here_or_up, found, bind_found, unset, set_entry, cell_with, assigned_in, assigned, all_assigned}
use Rattle.law_whole.specs.Ready.{HasDepth, is_one_of, Besides, OrThisDepth, BesidesPattern, BoundTo, FoundFrom, BoundFrom, Ready, CasesReady}
use Rattle.law_whole.specs.WholeWorld.{ValueReady, ValuesReady, OptionReady, BindReady, BindsReady, CellReady, WholeWorld}
use Rattle.law_whole.specs.Grows.{Same, WorldGrowth}
use Rattle.law_whole.specs.PartsReady.{Bound}
use Rattle.law_whole.proofs.Growth.{grows_refl, grows_then, grows_kept, grows_set, grows_assigned, same_with, found_still, bound_still}
use Rattle.law_whole.proofs.Steady.{value_still, values_still, cell_still, globals_still, text_still, cell_lies_still}

-- A cell is added.

added_or : (cells : List Cell) (c d : Cell) (n : ℕ) → slice_get (cells ++ c ∷ []) n ≡ Some d → (slice_get cells n ≡ Some d) ⊎ (c ≡ d)
added_or [] c d zero e = inr (cc)
added_or [] c d (suc n) e = absurd (cc)
added_or (b ∷ bs) c d zero e = inl e
added_or (b ∷ bs) c d (suc n) e = added_or bs c d n e

pub grows_added : (cells : List Cell) (c : Cell) → WorldGrowth cells (cells ++ c ∷ [])
grows_added cells c = grows_kept cells (cells ++ c ∷ []) (take-added cells (c ∷ []))

pub length_added : (cells : List Cell) (c : Cell) → length (cells ++ c ∷ []) ≡ suc (length cells)
length_added [] c = refl
length_added (x ∷ cells) c = ap suc (length_added cells c)

pub world_added : (w : PlainSetting) (cells : List Cell) (c : Cell) → WholeWorld w cells → CellLies cells (length cells) c → CellReady w cells c → WholeWorld w (cells ++ c ∷ [])
world_added w cells c world lies ready =
    let new = cells ++ c ∷ [] in
    let g = grows_added cells c in
    record {
      whole = whole_added cells c world.whole lies;
      values = λ n d e. elim (added_or cells c d n e) [
        | inl o ↦ cell_still w cells new g d (world.values n d o)
        | inr p ↦ subst (λ b. CellReady w new b) p (cell_still w cells new g c ready)
      ];
      globals = globals_still w cells new g w.globals world.globals;
      texts = λ op e. text_still w cells new g (text_number op) (world.texts op e);
    }

-- A variable gets its value.

set_or : (cells : List Cell) (i n : ℕ) (d b : Cell) → slice_get (slice_set cells i d) n ≡ Some b → (slice_get cells n ≡ Some b) ⊎ ((n ≡ i) × (d ≡ b))
set_or [] i n d b e = inl e
set_or (x ∷ cells) zero zero d b e = inr (refl, cc)
set_or (x ∷ cells) zero (suc n) d b e = inl e
set_or (x ∷ cells) (suc i) zero d b e = inl e
set_or (x ∷ cells) (suc i) (suc n) d b e = elim (set_or cells i n d b e) [ inl o ↦ inl o | inr p ↦ inr (ap suc p.0, p.1) ]

world_set : (w : PlainSetting) (cells : List Cell) (i : ℕ) (c d : Cell) → WholeWorld w cells → slice_get cells i ≡ Some c → Same c d → CellLies cells i d → CellReady w cells d
    → WholeWorld w (slice_set cells i d)
world_set w cells i c d world e s lies ready =
    let new = slice_set cells i d in
    let g = grows_set cells i c d e s in
    record {
      whole = record {
        lies = λ n b f. elim (set_or cells i n d b f) [
          | inl o ↦ cell_lies_still cells new g n b (world.whole.lies n b o)
          | inr p ↦ subst (λ m. CellLies new m b) (sym p.0) (subst (λ x. CellLies new i x) p.1 (cell_lies_still cells new g i d lies))
        ];
      };
      values = λ n b f. elim (set_or cells i n d b f) [
        | inl o ↦ cell_still w cells new g b (world.values n b o)
        | inr p ↦ subst (λ x. CellReady w new x) p.1 (cell_still w cells new g d ready)
      ];
      globals = globals_still w cells new g w.globals world.globals;
      texts = λ op t. text_still w cells new g (text_number op) (world.texts op t);
    }

set_fits : (cells : List Cell) (l : Label) (v : Value) (es : Entries) → FitsIn cells v → Each (λ (e : Label × Option Value). VariableFits cells e.1) es
    → Each (λ (e : Label × Option Value). VariableFits cells e.1) (set_entry l v es)
set_fits cells l v [] f h = tt
set_fits cells l v (e ∷ es) f h = by_own (same_label l e.0) (set_fits cells l v es f h.1)
  where
    by_own : (t : Bool) → Each (λ (e : Label × Option Value). VariableFits cells e.1) (set_entry l v es)
        → Each (λ (e : Label × Option Value). VariableFits cells e.1) (cond t ((e.0, Some v) ∷ es) (e ∷ set_entry l v es))
    by_own true k = (f, h.1)
    by_own false k = (h.0, k)

set_ready : (w : PlainSetting) (cells : List Cell) (l : Label) (v : Value) (es : Entries) → ValueReady w cells v → Each (λ (e : Label × Option Value). OptionReady w cells e.1) es
    → Each (λ (e : Label × Option Value). OptionReady w cells e.1) (set_entry l v es)
set_ready w cells l v [] r h = tt
set_ready w cells l v (e ∷ es) r h = by_own (same_label l e.0) (set_ready w cells l v es r h.1)
  where
    by_own : (t : Bool) → Each (λ (e : Label × Option Value). OptionReady w cells e.1) (set_entry l v es)
        → Each (λ (e : Label × Option Value). OptionReady w cells e.1) (cond t ((e.0, Some v) ∷ es) (e ∷ set_entry l v es))
    by_own true k = (r, h.1)
    by_own false k = (h.0, k)

lies_with : (cells : List Cell) (n : ℕ) (l : Label) (v : Value) (c : Cell) → FitsIn cells v → CellLies cells n c → CellLies cells n (cell_with l v c)
lies_with cells n l v (cell.Scope es p) f h = (set_fits cells l v es f h.0, h.1)
lies_with cells n l v (cell.Pair x y) f h = h
lies_with cells n l v (cell.Vector xs) f h = h
lies_with cells n l v (cell.Str text) f h = h
lies_with cells n l v (cell.Binds bs p) f h = h
lies_with cells n l v (cell.Transformer x) f h = h

ready_with : (w : PlainSetting) (cells : List Cell) (l : Label) (v : Value) (c : Cell) → ValueReady w cells v → CellReady w cells c → CellReady w cells (cell_with l v c)
ready_with w cells l v (cell.Scope es p) r h = set_ready w cells l v es r h
ready_with w cells l v (cell.Pair x y) r h = h
ready_with w cells l v (cell.Vector xs) r h = h
ready_with w cells l v (cell.Str text) r h = h
ready_with w cells l v (cell.Binds bs p) r h = h
ready_with w cells l v (cell.Transformer x) r h = h

pub world_assigned : (w : PlainSetting) (cells : List Cell) (place : Place) (l : Label) (v : Value) → WholeWorld w cells → ValueReady w cells v → WholeWorld w (assigned cells place l v)
world_assigned w cells place l v world r = by_cell (slice_get cells place.0) refl
  where
    by_cell : (o : Option Cell) → slice_get cells place.0 ≡ o → WholeWorld w (assigned_in cells place l v o)
    by_cell None e = world
    by_cell (Some c) e =
        world_set w cells place.0 c (cell_with l v c) world e (same_with l v c)
        (lies_with cells place.0 l v c r.fits (world.whole.lies place.0 c e)) (ready_with w cells l v c r (world.values place.0 c e))

pub grows_all_assigned : (cells : List Cell) (place : Place) (is : PlainInits) (vs : List Value) → WorldGrowth cells (all_assigned cells place is vs)
grows_all_assigned cells place no_init vs = grows_refl cells
grows_all_assigned cells place (init l c is) [] = grows_refl cells
grows_all_assigned cells place (init l c is) (v ∷ vs) =
    grows_then cells (assigned cells place l v) (all_assigned (assigned cells place l v) place is vs) (grows_assigned cells place l v) (grows_all_assigned (assigned cells place l v) place is vs)

pub world_all_assigned : (w : PlainSetting) (cells : List Cell) (place : Place) (is : PlainInits) (vs : List Value) → WholeWorld w cells → ValuesReady w cells vs
    → WholeWorld w (all_assigned cells place is vs)
world_all_assigned w cells place no_init vs world r = world
world_all_assigned w cells place (init l c is) [] world r = world
world_all_assigned w cells place (init l c is) (v ∷ vs) world r =
    let then = assigned cells place l v in
    world_all_assigned w then place is vs (world_assigned w cells place l v world r.0) (values_still w cells then (grows_assigned cells place l v) vs r.1)

-- Cells of variables.

pub below_variables : (cells : List Cell) (n : ℕ) → IsTrue (has_variables (slice_get cells n)) → n < length cells
below_variables [] n h = absurd (cc)
below_variables (c ∷ cells) zero h = omega arith
below_variables (c ∷ cells) (suc n) h = omega (arith, below_variables cells n h)

entries_fit : (w : PlainSetting) (cells : List Cell) (es : Entries) → Each (λ (e : Label × Option Value). OptionReady w cells e.1) es
    → Each (λ (e : Label × Option Value). VariableFits cells e.1) es
entries_fit w cells [] r = tt
entries_fit w cells ((l, None) ∷ es) r = (tt, entries_fit w cells es r.1)
entries_fit w cells ((l, Some v) ∷ es) r = (r.0.fits, entries_fit w cells es r.1)

mutual
  bind_lies : (w : PlainSetting) (cells : List Cell) (b : PlainBind) → BindReady w cells b → BindLies cells (length cells) b
  bind_lies w cells (one v) r = lies_here cells v r.fits
  bind_lies w cells (many bs) r = turns_lie w cells bs r

  turns_lie : (w : PlainSetting) (cells : List Cell) (bs : PlainBinds) → BindsReady w cells bs → BindsLie cells (length cells) bs
  turns_lie w cells none r = tt
  turns_lie w cells (more b bs) r = (bind_lies w cells b r.0, turns_lie w cells bs r.1)

binds_lie : (w : PlainSetting) (cells : List Cell) (bs : List (Label × PlainBind)) → Each (λ (b : Label × PlainBind). BindReady w cells b.1) bs
    → Each (λ (b : Label × PlainBind). BindLies cells (length cells) b.1) bs
binds_lie w cells [] r = tt
binds_lie w cells (b ∷ bs) r = (bind_lies w cells b.1 r.0, binds_lie w cells bs r.1)

pub scope_added : (w : PlainSetting) (cells : List Cell) (es : Entries) (parent : Place) → WholeWorld w cells → Each (λ (e : Label × Option Value). OptionReady w cells e.1) es
    → IsTrue (has_variables (slice_get cells parent.0)) → WholeWorld w (cells ++ cell.Scope es (Some parent) ∷ [])
scope_added w cells es parent world r h =
    world_added w cells (cell.Scope es (Some parent)) world (entries_fit w cells es r, (below_variables cells parent.0 h, h)) r

pub first_scope_added : (w : PlainSetting) (cells : List Cell) → WholeWorld w cells → WholeWorld w (cells ++ cell.Scope [] None ∷ [])
first_scope_added w cells world = world_added w cells (cell.Scope [] None) world (tt, tt) tt

pub binds_added : (w : PlainSetting) (cells : List Cell) (bs : List (Label × PlainBind)) (parent : Place) → WholeWorld w cells
    → Each (λ (b : Label × PlainBind). BindReady w cells b.1) bs → IsTrue (has_variables (slice_get cells parent.0)) → WholeWorld w (cells ++ cell.Binds bs (Some parent) ∷ [])
binds_added w cells bs parent world r h =
    world_added w cells (cell.Binds bs (Some parent)) world (binds_lie w cells bs r, (below_variables cells parent.0 h, h)) r

pub has_added : (cells : List Cell) (c : Cell) → has_variables (Some c) ≡ true → IsTrue (has_variables (slice_get (cells ++ c ∷ []) (length cells)))
has_added cells c h = added_found has_variables cells c h

-- Lists.

pub record Stored (w : PlainSetting) (old : List Cell) (p : Value × List Cell) : Type 0 where
  pub grows : WorldGrowth old p.1
  pub world : WholeWorld w p.1
  pub ready : ValueReady w p.1 p.0

pub pair_good : (w : PlainSetting) (cells : List Cell) (x y : Value) → WholeWorld w cells → ValueReady w cells x → ValueReady w cells y
    → Stored w cells (value.Pair (record { 0 = length cells }), cells ++ cell.Pair x y ∷ [])
pair_good w cells x y world r s = record {
  grows = grows_added cells (cell.Pair x y);
  world = world_added w cells (cell.Pair x y) world (lies_here cells x r.fits, lies_here cells y s.fits) (r, s);
  ready = record { fits = added_found (λ o. is_found (pair_in o)) cells (cell.Pair x y) refl; ready = tt };
}

pub pairs_good : (w : PlainSetting) (xs : List Value) (x : Value) (cells : List Cell) → WholeWorld w cells → ValuesReady w cells xs → ValueReady w cells x
    → Stored w cells (pairs_stored xs (x, cells))
pairs_good w [] x cells world r s = record { grows = grows_refl cells; world = world; ready = s }
pairs_good w (y ∷ ys) x cells world r s =
    let p = pairs_stored ys (x, cells) in
    let rest = pairs_good w ys x cells world r.1 s in
    let last = pair_good w p.1 y p.0 rest.world (value_still w cells p.1 rest.grows y r.0) rest.ready in
    record { grows = grows_then cells p.1 (p.1 ++ cell.Pair y p.0 ∷ []) rest.grows last.grows; world = last.world; ready = last.ready }

-- The variables of a call.

bound_ready : (w : PlainSetting) (cells : List Cell) (ls : List Label) (vs : List Value) → ValuesReady w cells vs
    → Each (λ (e : Label × Option Value). OptionReady w cells e.1) (bound ls vs)
bound_ready w cells [] vs r = tt
bound_ready w cells (l ∷ ls) [] r = tt
bound_ready w cells (l ∷ ls) (v ∷ vs) r = (r.0, bound_ready w cells ls vs r.1)

-- the variables of a call with the cells then
pub record Bindings (w : PlainSetting) (old : List Cell) (p : Entries × List Cell) : Type 0 where
  pub grows : WorldGrowth old p.1
  pub world : WholeWorld w p.1
  pub ready : Each (λ (e : Label × Option Value). OptionReady w p.1 e.1) p.0

pub bindings_good : (w : PlainSetting) (o : Option Label) (ls : List Label) (vs : List Value) (cells : List Cell) → WholeWorld w cells → ValuesReady w cells vs
    → Bindings w cells (bindings o ls vs cells)
bindings_good w None ls vs cells world r = record { grows = grows_refl cells; world = world; ready = bound_ready w cells ls vs r }
bindings_good w (Some l) ls vs cells world r =
    let p = pairs_stored (drop (length ls) vs) (value.Atom a.Nil, cells) in
    let rest = pairs_good w (drop (length ls) vs) (value.Atom a.Nil) cells world (each-dropped (ValueReady w cells) (length ls) vs r) (record { fits = tt; ready = tt }) in
    record {
      grows = rest.grows;
      world = rest.world;
      ready = each-and (λ (e : Label × Option Value). OptionReady w p.1 e.1) (bound ls vs) (l, Some p.0) (bound_ready w p.1 ls vs (values_still w cells p.1 rest.grows vs r)) rest.ready;
    }

le_of : (m n : ℕ) → nat_le m n ≡ true → m ≤ n
le_of m n h = grind (arith, nat_tests)

eq_of : (m n : ℕ) → nat_eq m n ≡ true → m ≡ n
eq_of m n h = grind (arith, nat_tests)

-- each formal is among the variables, and others that stand behind them
bound_found : (l : Label) (ls behind : List Label) (vs : List Value) (es : Entries) → length ls ≤ length vs → (IsTrue (is_one_of behind l) → IsTrue (is_found (lookup (same_label l) es)))
    → IsTrue (is_one_of (ls ++ behind) l) → IsTrue (is_found (lookup (same_label l) (bound ls vs ++ es)))
bound_found l [] behind vs es le k h = k h
bound_found l (m ∷ ls) behind [] es le k h = absurd (omega (arith, le))
bound_found l (m ∷ ls) behind (v ∷ vs) es le k h = by_own (same_label l m) (bound_found l ls behind vs es (omega (arith, le)) k) h
  where
    by_own : (t : Bool) → (IsTrue (is_one_of (ls ++ behind) l) → IsTrue (is_found (lookup (same_label l) (bound ls vs ++ es))))
        → IsTrue (cond t true (is_one_of (ls ++ behind) l)) → IsTrue (is_found (cond t (Some (Some v)) (lookup (same_label l) (bound ls vs ++ es))))
    by_own true again h = refl
    by_own false again h = again h

one_found : (l m : Label) (v : Value) → IsTrue (is_one_of (m ∷ []) l) → IsTrue (is_found (lookup (same_label l) ((m, Some v) ∷ [])))
one_found l m v h = by_own (same_label l m) h
  where
    by_own : (t : Bool) → IsTrue (cond t true false) → IsTrue (is_found (cond t (Some (Some v)) None))
    by_own true h = refl
    by_own false h = absurd (cc)

pub formals_found : (l : Label) (o : Option Label) (ls : List Label) (vs : List Value) (cells : List Cell) → takes_so_many o (length ls) (length vs) ≡ true
    → IsTrue (is_one_of (formals_labels (record { required = ls; rest = o })) l) → IsTrue (is_found (lookup (same_label l) (bindings o ls vs cells).0))
formals_found l None ls vs cells t h =
    let all = bound_found l ls [] vs [] (omega (arith, eq_of (length ls) (length vs) t)) (λ k. absurd (cc)) h in
    subst (λ (es : Entries). IsTrue (is_found (lookup (same_label l) es))) (append-nil (bound ls vs)) all
formals_found l (Some m) ls vs cells t h =
    let p = pairs_stored (drop (length ls) vs) (value.Atom a.Nil, cells) in
    bound_found l ls (m ∷ []) vs ((m, Some p.0) ∷ []) (le_of (length ls) (length vs) t) (one_found l m p.0) h

pub unset_found : (l : Label) (is : PlainInits) → IsTrue (is_one_of (init_labels is) l) → IsTrue (is_found (lookup (same_label l) (unset is)))
unset_found l no_init h = absurd (cc)
unset_found l (init m c is) h = by_own (same_label l m) (unset_found l is) h
  where
    by_own : (t : Bool) → (IsTrue (is_one_of (init_labels is) l) → IsTrue (is_found (lookup (same_label l) (unset is)))) → IsTrue (cond t true (is_one_of (init_labels is) l))
        → IsTrue (is_found (cond t (Some None) (lookup (same_label l) (unset is))))
    by_own true again h = refl
    by_own false again h = again h

pub unset_ready : (w : PlainSetting) (cells : List Cell) (is : PlainInits) → Each (λ (e : Label × Option Value). OptionReady w cells e.1) (unset is)
unset_ready w cells no_init = tt
unset_ready w cells (init l c is) = (tt, unset_ready w cells is)

-- Inside a cell that was added.

or_right : (a r : Option (Option Value)) → IsTrue (is_found r) → IsTrue (is_found (or_else a r))
or_right None r h = h
or_right (Some x) r h = refl

or_left : (a r : Option (Option Value)) → IsTrue (is_found a) → IsTrue (is_found (or_else a r))
or_left None r h = absurd (cc)
or_left (Some x) r h = refl

module _ (w : PlainSetting) (cells : List Cell) (c : Cell) where
  abbrev inner : Place
  inner = record { 0 = length cells }

  abbrev new : List Cell
  new = cells ++ c ∷ []

  -- a variable of the cell
  pub found_own : (l : Label) → IsTrue (is_found (entry_in l c)) → FoundFrom w new (Some inner) l
  found_own l h =
      ap (λ o. is_found (here_or_up (entry_in l) (found (length new) w.globals new l) o)) (slice_get-added cells c)
      ∙ or_left (entry_in l c) (upwards (found (length new) w.globals new l) (parent_in c)) h

  -- a variable that is found round it
  pub found_round : (parent : Option Place) → parent_in c ≡ Some parent → (l : Label) → FoundFrom w cells parent l → FoundFrom w new (Some inner) l
  found_round parent p l h =
      ap (λ o. is_found (here_or_up (entry_in l) (found (length new) w.globals new l) o)) (slice_get-added cells c)
      ∙ or_right (entry_in l c) (upwards (found (length new) w.globals new l) (parent_in c))
      (ap (λ o. is_found (upwards (found (length new) w.globals new l) o)) p
      ∙ found_still cells new (grows_added cells c) w.globals w.globals l (λ k. k) (suc (length cells)) (length new) parent (omega (arith, length_added cells c)) h)

  -- a pattern variable that is bound round it, and not in it
  pub bound_round : (parent : Option Place) → parent_in c ≡ Some parent → (l : Label) (d : ℕ) → bind_in l c ≡ None → BoundFrom cells parent l d → BoundFrom new (Some inner) l d
  bound_round parent p l d other h =
      subst (λ o. BoundTo d (here_or_up (bind_in l) (bind_found (length new) new l) o)) (sym (slice_get-added cells c))
      (subst (λ b. BoundTo d (or_else b (upwards (bind_found (length new) new l) (parent_in c)))) (sym other)
      (subst (λ o. BoundTo d (upwards (bind_found (length new) new l) o)) (sym p)
      (bound_still cells new (grows_added cells c) l d (suc (length cells)) (length new) parent (omega (arith, length_added cells c)) h)))

  -- a pattern variable of the cell
  pub bound_own : (l : Label) (d : ℕ) (b : PlainBind) → bind_in l c ≡ Some b → HasDepth d b → BoundFrom new (Some inner) l d
  bound_own l d b e h =
      subst (λ o. BoundTo d (here_or_up (bind_in l) (bind_found (length new) new l) o)) (sym (slice_get-added cells c))
      (subst (λ o. BoundTo d (or_else o (upwards (bind_found (length new) new l) (parent_in c)))) (sym e) h)

-- such a variable has its bind, and another one has none
abbrev pub FoundBind : Option ℕ → Option PlainBind → Type 0
FoundBind None None = Unit {0}
FoundBind None (Some b) = ⊥
FoundBind (Some d) None = ⊥
FoundBind (Some d) (Some b) = HasDepth d b

pub bind_of : (l : Label) (ds : Depths) (bs : List (Label × PlainBind)) → Bound ds bs → FoundBind (lookup (same_label l) ds) (lookup (same_label l) bs)
bind_of l [] [] h = tt
bind_of l [] (b ∷ bs) h = absurd h
bind_of l (d ∷ ds) [] h = absurd h
bind_of l (d ∷ ds) (b ∷ bs) h =
    subst (λ (m : Label). FoundBind (cond (same_label l d.0) (Some d.1) (lookup (same_label l) ds)) (cond (same_label l m) (Some b.1) (lookup (same_label l) bs))) h.0
    (by_own (same_label l d.0) (bind_of l ds bs h.1.1))
  where
    by_own : (t : Bool) → FoundBind (lookup (same_label l) ds) (lookup (same_label l) bs)
        → FoundBind (cond t (Some d.1) (lookup (same_label l) ds)) (cond t (Some b.1) (lookup (same_label l) bs))
    by_own true again = h.1.0
    by_own false again = again

-- Code that is ready round a cell and in its variables is ready in it.

module _ (w : PlainSetting) (cells : List Cell) (es : Entries) (parent : Option Place) where
  pub scope_finds : (ls : List Label) → ((l : Label) → IsTrue (is_one_of ls l) → IsTrue (is_found (lookup (same_label l) es))) → (l : Label)
      → Besides ls (FoundFrom w cells parent) l → FoundFrom w (cells ++ cell.Scope es parent ∷ []) (Some (record { 0 = length cells })) l
  scope_finds ls own l (inl h) = found_own w cells (cell.Scope es parent) l (own l h)
  scope_finds ls own l (inr h) = found_round w cells (cell.Scope es parent) parent refl l h

  pub scope_finds_all : (l : Label) → FoundFrom w cells parent l → FoundFrom w (cells ++ cell.Scope es parent ∷ []) (Some (record { 0 = length cells })) l
  scope_finds_all l h = found_round w cells (cell.Scope es parent) parent refl l h

  pub scope_binds : (l : Label) (d : ℕ) → BoundFrom cells parent l d → BoundFrom (cells ++ cell.Scope es parent ∷ []) (Some (record { 0 = length cells })) l d
  scope_binds l d h = bound_round w cells (cell.Scope es parent) parent refl l d refl h

module _ (w : PlainSetting) (cells : List Cell) (bs : List (Label × PlainBind)) (parent : Option Place) where
  pub pattern_finds : (l : Label) → FoundFrom w cells parent l → FoundFrom w (cells ++ cell.Binds bs parent ∷ []) (Some (record { 0 = length cells })) l
  pattern_finds l h = found_round w cells (cell.Binds bs parent) parent refl l h

  pub pattern_binds : (ds : Depths) → Bound ds bs → (l : Label) (d : ℕ) → BesidesPattern ds (BoundFrom cells parent) l d
      → BoundFrom (cells ++ cell.Binds bs parent ∷ []) (Some (record { 0 = length cells })) l d
  pattern_binds ds all l d h = by_bind (lookup (same_label l) ds) (lookup (same_label l) bs) refl (bind_of l ds bs all) h
    where
      by_bind : (o : Option ℕ) (p : Option PlainBind) → lookup (same_label l) bs ≡ p → FoundBind o p → OrThisDepth d (BoundFrom cells parent l d) o
          → BoundFrom (cells ++ cell.Binds bs parent ∷ []) (Some (record { 0 = length cells })) l d
      by_bind None None e f k = bound_round w cells (cell.Binds bs parent) parent refl l d e k
      by_bind None (Some b) e f k = absurd f
      by_bind (Some m) None e f k = absurd f
      by_bind (Some m) (Some b) e f k = bound_own w cells (cell.Binds bs parent) l d b e (subst (λ n. HasDepth n b) k f)

-- the case that takes the arguments
pub record CaseReady (w : PlainSetting) (F : Label → Type 0) (G : Label → ℕ → Type 0) (n : ℕ) (x : Formals × PlainCore) : Type 0 where
  pub takes_it : takes x.0 n ≡ true
  pub ready : Ready w (Besides (formals_labels x.0) F) G x.1

pub case_ready : (w : PlainSetting) (F : Label → Type 0) (G : Label → ℕ → Type 0) (n : ℕ) (cs : PlainCases) (x : Formals × PlainCore) → CasesReady w F G cs → first_case cs n ≡ Some x
    → CaseReady w F G n x
case_ready w F G n no_case x r e = absurd (cc)
case_ready w F G n (case f c cs) x r e = by_test (takes f n) refl (case_ready w F G n cs x r.1) e
  where
    by_test : (t : Bool) → takes f n ≡ t → (first_case cs n ≡ Some x → CaseReady w F G n x) → cond t (Some (f, c)) (first_case cs n) ≡ Some x → CaseReady w F G n x
    by_test true h again e =
        let is : (f, c) ≡ x = cc in
        subst (λ (y : Formals × PlainCore). CaseReady w F G n y) is (record { takes_it = h; ready = r.0 })
    by_test false h again e = again e
