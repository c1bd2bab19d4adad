-- What an invariant says of variables, which stand in cells, and of codes.
use Rattle.std.proofs.Common.{ℕ, zero, suc, List, [], ◌∷◌, Option, Some, None, Bool, true, false, slice_get, slice_set, option_map, if◌then◌else◌}
use Rattle.std.specs.Map.{lookup}
use Rattle.base_data.specs.Elements.{Each}
use Rattle.base_data.specs.declared.name.CodeNo.{CodeNo}
use Rattle.base_data.specs.declared.name.Label.{Label}
use Rattle.base_region.specs.declared.region.Place.{Place}
use Rattle.stx_frames.specs.Scope.{or_else}
use Rattle.core_language.specs.Core.{PlainInits, no_init, init, PlainCode}
use Rattle.core_language.specs.Labels.{same_label}
use Rattle.eval_value.specs.Bind.{PlainBind}
use Rattle.eval_value.specs.declared.value.Value.{Value}
use Rattle.eval_value.specs.declared.cell.Cell.{Cell}
use Rattle.eval_value.specs.declared.cell.Cell.TheVariants as cell
use Rattle.eval_code.specs.Codes.{same_code, code_at}
use Rattle.eval_code.specs.Variables.{Entries, entry_in, bind_in, parent_in, upwards, here_or_up, found, bind_found, unset, set_entry, cell_with, assigned_in, assigned, all_assigned}
use Rattle.law_invariants.specs.Holds.{ValueHolds, ValuesHold, BindHolds, VariableHolds, CellHolds, CellsHold, CodeHolds, CodesHold, GlobalsHold}
use Rattle.law_invariants.specs.Invariant.{OptionHolds}
use Rattle.law_invariants.proofs.Eachs.{each_at}
use Rattle.law_invariants.specs.Invariant.{Invariant}

-- what is found in a table
pub looked_up : {K V : Type 0} (P : V → Type 0) (same : K → Bool) (es : List (K × V)) → Each (λ (e : K × V). P e.1) es → OptionHolds P (lookup same es)
looked_up P same [] h = tt
looked_up {K} {V} P same (e ∷ es) h = by_same (same e.0) (looked_up P same es h.1)
  where
    by_same : (t : Bool) → OptionHolds P (lookup same es) → OptionHolds P (if t then Some e.1 else lookup same es)
    by_same true k = h.0
    by_same false k = k

module _ (I : Invariant) where
  abbrev pub EntriesHold : Entries → Type 0
  EntriesHold es = Each (λ (e : Label × Option Value). VariableHolds I e.1) es

  abbrev pub FoundValue : Option (Option Value) → Type 0
  FoundValue o = OptionHolds (VariableHolds I) o

  abbrev pub FoundBind : Option PlainBind → Type 0
  FoundBind o = OptionHolds (BindHolds I) o

  or_holds : {A : Type 0} (Q : A → Type 0) (o r : Option A) → OptionHolds Q o → OptionHolds Q r → OptionHolds Q (or_else o r)
  or_holds Q None r h k = k
  or_holds Q (Some b) r h k = h

  up_holds : {A : Type 0} (Q : A → Type 0) (f : Option Place → Option A) → ((o : Option Place) → OptionHolds Q (f o)) → (p : Option (Option Place)) → OptionHolds Q (upwards f p)
  up_holds Q f k None = tt
  up_holds Q f k (Some o) = k o

  here_or_up_holds : {A : Type 0} (Q : A → Type 0) (here : Cell → Option A) (next : Option Place → Option A) → ((c : Cell) → CellHolds I c → OptionHolds Q (here c)) → ((o : Option Place) → OptionHolds Q (next o))
      → (o : Option Cell) → OptionHolds (CellHolds I) o → OptionHolds Q (here_or_up here next o)
  here_or_up_holds Q here next h k None r = tt
  here_or_up_holds Q here next h k (Some c) r = or_holds Q (here c) (upwards next (parent_in c)) (h c r) (up_holds Q next k (parent_in c))

  entry_holds : (l : Label) (c : Cell) → CellHolds I c → FoundValue (entry_in l c)
  entry_holds l (cell.Scope es p) h = looked_up (VariableHolds I) (same_label l) es h
  entry_holds l (cell.Binds bs p) h = tt
  entry_holds l (cell.Pair x y) h = tt
  entry_holds l (cell.Vector xs) h = tt
  entry_holds l (cell.Str text) h = tt
  entry_holds l (cell.Transformer x) h = tt

  bind_in_holds : (l : Label) (c : Cell) → CellHolds I c → FoundBind (bind_in l c)
  bind_in_holds l (cell.Binds bs p) h = looked_up (BindHolds I) (same_label l) bs h
  bind_in_holds l (cell.Scope es p) h = tt
  bind_in_holds l (cell.Pair x y) h = tt
  bind_in_holds l (cell.Vector xs) h = tt
  bind_in_holds l (cell.Str text) h = tt
  bind_in_holds l (cell.Transformer x) h = tt

  in_globals : (o : Option Value) → OptionHolds (ValueHolds I) o → FoundValue (option_map (λ v. Some v) o)
  in_globals None h = tt
  in_globals (Some v) h = h

  module _ (cells : List Cell) (holds : CellsHold I cells) where
    pub found_holds : (gs : List (Label × Value)) → GlobalsHold I gs → (n : ℕ) (l : Label) (o : Option Place) → FoundValue (found n gs cells l o)
    found_holds gs g zero l o = tt
    found_holds gs g (suc n) l None = in_globals (lookup (same_label l) gs) (looked_up (ValueHolds I) (same_label l) gs g)
    found_holds gs g (suc n) l (Some place) =
        here_or_up_holds (VariableHolds I) (entry_in l) (found n gs cells l) (entry_holds l) (found_holds gs g n l) (slice_get cells place.0) (each_at (CellHolds I) cells place.0 holds)

    pub bind_holds : (n : ℕ) (l : Label) (o : Option Place) → FoundBind (bind_found n cells l o)
    bind_holds zero l o = tt
    bind_holds (suc n) l None = tt
    bind_holds (suc n) l (Some place) =
        here_or_up_holds (BindHolds I) (bind_in l) (bind_found n cells l) (bind_in_holds l) (bind_holds n l) (slice_get cells place.0) (each_at (CellHolds I) cells place.0 holds)

  pub unset_holds : (is : PlainInits) → EntriesHold (unset is)
  unset_holds no_init = tt
  unset_holds (init l c is) = (tt, unset_holds is)

  set_entry_holds : (l : Label) (v : Value) (es : Entries) → EntriesHold es → ValueHolds I v → EntriesHold (set_entry l v es)
  set_entry_holds l v [] h k = tt
  set_entry_holds l v (e ∷ es) h k = by_same (same_label l e.0) (set_entry_holds l v es h.1 k)
    where
      by_same : (t : Bool) → EntriesHold (set_entry l v es) → EntriesHold (if t then (e.0, Some v) ∷ es else e ∷ set_entry l v es)
      by_same true j = (k, h.1)
      by_same false j = (h.0, j)

  cell_with_holds : (l : Label) (v : Value) (c : Cell) → CellHolds I c → ValueHolds I v → CellHolds I (cell_with l v c)
  cell_with_holds l v (cell.Scope es p) h k = set_entry_holds l v es h k
  cell_with_holds l v (cell.Pair x y) h k = h
  cell_with_holds l v (cell.Vector xs) h k = h
  cell_with_holds l v (cell.Str text) h k = h
  cell_with_holds l v (cell.Binds bs p) h k = h
  cell_with_holds l v (cell.Transformer x) h k = h

  set_cell : (cells : List Cell) (i : ℕ) (c : Cell) → CellsHold I cells → CellHolds I c → CellsHold I (slice_set cells i c)
  set_cell [] i c h k = tt
  set_cell (x ∷ cells) zero c h k = (k, h.1)
  set_cell (x ∷ cells) (suc i) c h k = (h.0, set_cell cells i c h.1 k)

  pub assigned_holds : (cells : List Cell) (place : Place) (l : Label) (v : Value) → CellsHold I cells → ValueHolds I v → CellsHold I (assigned cells place l v)
  assigned_holds cells place l v h k = by_cell (slice_get cells place.0) (each_at (CellHolds I) cells place.0 h)
    where
      by_cell : (o : Option Cell) → OptionHolds (CellHolds I) o → CellsHold I (assigned_in cells place l v o)
      by_cell None j = h
      by_cell (Some c) j = set_cell cells place.0 (cell_with l v c) h (cell_with_holds l v c j k)

  pub all_assigned_hold : (cells : List Cell) (place : Place) (is : PlainInits) (vs : List Value) → CellsHold I cells → ValuesHold I vs → CellsHold I (all_assigned cells place is vs)
  all_assigned_hold cells place no_init vs h k = h
  all_assigned_hold cells place (init l c is) [] h k = h
  all_assigned_hold cells place (init l c is) (v ∷ vs) h k = all_assigned_hold (assigned cells place l v) place is vs (assigned_holds cells place l v h k.0) k.1

  pub code_holds : (cs : List (CodeNo × PlainCode)) (number : CodeNo) → CodesHold I cs → OptionHolds (CodeHolds I) (code_at cs number)
  code_holds cs number h = looked_up (CodeHolds I) (same_code number) cs h
