-- What a pattern binds are parts of the value that it matches and of the cells.
use Rattle.std.proofs.Common.{◌+◌, ◌-◌, ℕ, zero, suc, List, [], ◌∷◌, ◌++◌, Option, Some, None, Bool, true, false, length, take, drop, map, nat_le, if◌then◌else◌}
use Rattle.base_data.proofs.ElementLemmas.{each-append, each-and, each-taken, each-dropped}
use Rattle.base_data.specs.Elements.{Each}
use Rattle.base_data.specs.declared.name.Label.{Label}
use Rattle.stx_tree.specs.Tree as tree
use Rattle.stx_tree.specs.Tree.{Tree}
use Rattle.stx_frames.specs.Scope.{Scope}
use Rattle.core_language.specs.Pattern.{PlainPattern, any, variable, literal, atom, list, vector, PlainPatterns, none, more, dots}
use Rattle.core_shapes.specs.Lists.{elements}
use Rattle.eval_value.specs.Bind.{PlainBind, one, turns}
use Rattle.eval_value.specs.declared.value.Value.{Value}
use Rattle.eval_value.specs.declared.value.Value.TheVariants as value
use Rattle.eval_value.specs.declared.cell.Cell.{Cell}
use Rattle.eval_pattern.specs.Columns.{empty_column, empty_columns, all_empty_columns, with_bind, grown, closed}
use Rattle.eval_pattern.specs.Front.{has_room, fronted, on_pair, store_front, tree_front, further, front}
use Rattle.eval_pattern.specs.Matched.{nothing, and_then, kept, count, limit, repeated, no_rows, with_rows, on_elements, matched, all_matched}
use Rattle.eval_pattern.specs.Values.{atom_of, is_atom, is_alike, stored_pair, vector_of}
use Rattle.eval_pattern.specs.declared.columns.Column.{Column}
use Rattle.eval_pattern.specs.declared.columns.PatternBinds.{PatternBinds}
use Rattle.eval_pattern.specs.declared.columns.Rows.{Rows}
use Rattle.eval_pattern.specs.declared.front.Front.{Front}
use Rattle.law_invariants.specs.Holds.{ValueHolds, ValuesHold, BindHolds, BindsHold, CellsHold}
use Rattle.law_invariants.proofs.Reading.{PairOr, ValuesOr, pair_at_holds, vector_at_holds}
use Rattle.law_invariants.specs.Invariant.{Invariant}
use Rattle.law_invariants.specs.Closed.{IsClosed}

module _ (I : Invariant) where
  -- the binds of pattern variables
  abbrev pub AllBound : List (Label × PlainBind) → Type 0
  AllBound bs = Each (λ (b : Label × PlainBind). BindHolds I b.1) bs

  abbrev pub FoundOr : Option PatternBinds → Type 0
  FoundOr None = Unit {0}
  FoundOr (Some f) = AllBound f.binds

  found_then : (o : Option PatternBinds) (go : PatternBinds → Option PatternBinds) → FoundOr o → ((f : PatternBinds) → AllBound f.binds → FoundOr (go f)) → FoundOr (and_then o go)
  found_then None go h k = tt
  found_then (Some f) go h k = k f h

  found_kept : (b : Bool) (s : PatternBinds) → AllBound s.binds → FoundOr (kept b s)
  found_kept true s h = h
  found_kept false s h = tt

  -- Columns.

  abbrev Columns : List Column → Type 0
  Columns cols = Each (λ (c : Column). Each (BindHolds I) c.binds) cols

  columns_and : (cols : List Column) (c : Column) → Columns cols → Each (BindHolds I) c.binds → Columns (cols ++ c ∷ [])
  columns_and cols c h k = each-and (λ (c : Column). Each (BindHolds I) c.binds) cols c h k

  mutual
    empty_hold : (p : PlainPattern) (cols : List Column) → Columns cols → Columns (empty_columns p cols)
    empty_hold any cols h = h
    empty_hold (variable l) cols h = columns_and cols (empty_column l) h tt
    empty_hold (literal t) cols h = h
    empty_hold (atom a) cols h = h
    empty_hold (list ps t) cols h = empty_hold t (all_empty_columns ps cols) (all_empty_hold ps cols h)
    empty_hold (vector ps) cols h = all_empty_hold ps cols h

    all_empty_hold : (ps : PlainPatterns) (cols : List Column) → Columns cols → Columns (all_empty_columns ps cols)
    all_empty_hold none cols h = h
    all_empty_hold (more p ps) cols h = all_empty_hold ps (empty_columns p cols) (empty_hold p cols h)
    all_empty_hold (dots p ps) cols h = all_empty_hold ps (empty_columns p cols) (empty_hold p cols h)

  grown_hold : (done cols : List Column) (row : List (Label × PlainBind)) → Columns done → Columns cols → AllBound row → Columns (grown done cols row)
  grown_hold done [] row g h r = g
  grown_hold done (c ∷ cols) [] g h r = g
  grown_hold done (c ∷ cols) (b ∷ row) g h r =
      grown_hold (done ++ with_bind c b.1 ∷ []) cols row (columns_and done (with_bind c b.1) g (each-and (BindHolds I) c.binds b.1 h.0 r.0)) h.1 r.1

  turns_hold : (bs : List PlainBind) → Each (BindHolds I) bs → BindsHold I (turns bs)
  turns_hold [] h = tt
  turns_hold (b ∷ bs) h = (h.0, turns_hold bs h.1)

  closed_hold : (cols : List Column) → Columns cols → AllBound (closed cols)
  closed_hold [] h = tt
  closed_hold (c ∷ cols) h = (turns_hold c.binds h.0, closed_hold cols h.1)

  abbrev RowsOr : Option Rows → Type 0
  RowsOr None = Unit {0}
  RowsOr (Some rows) = Columns rows.columns

  repeated_hold : (go : Value → PatternBinds → Option PatternBinds) → ((v : Value) (s : PatternBinds) → ValueHolds I v → AllBound s.binds → FoundOr (go v s))
      → (xs : List Value) (rows : Rows) → Columns rows.columns → ValuesHold I xs → RowsOr (repeated go rows xs)
  repeated_hold go goes [] rows h r = h
  repeated_hold go goes (x ∷ xs) rows h r = by_row (λ next k. repeated_hold go goes xs next k r.1) (go x (nothing (rows.taken + 1))) (goes x (nothing (rows.taken + 1)) r.0 tt)
    where
      by_row : ((next : Rows) → Columns next.columns → RowsOr (repeated go next xs)) → (o : Option PatternBinds) → FoundOr o
          → RowsOr (and_then o (λ row. repeated go (record { columns = grown [] rows.columns row.binds; taken = row.taken }) xs))
      by_row again None j = tt
      by_row again (Some row) j = again (record { columns = grown [] rows.columns row.binds; taken = row.taken }) (grown_hold [] rows.columns row.binds tt h j)

  -- Elements of lists and vectors.

  abbrev FrontHolds : Front → Type 0
  FrontHolds f = ValuesHold I f.elements × ValueHolds I f.rest

  module _ (parts : IsClosed I) where
    pub elements_of_tree : (d : Tree) → I.trees d → Each I.trees (elements d)
    elements_of_tree (tree.atom s x) h = tt
    elements_of_tree (tree.leaf s x c) h = tt
    elements_of_tree (tree.pair s x d) h = (parts.first s x d h, elements_of_tree d (parts.rest s x d h))
    elements_of_tree (tree.vector s d) h = tt

    trees_hold : (ts : List Tree) → Each I.trees ts → ValuesHold I (map value.Syn ts)
    trees_hold [] h = tt
    trees_hold (t ∷ ts) h = (h.0, trees_hold ts h.1)

    module _ (cells : List Cell) (cells_hold : CellsHold I cells) where
      pair_shown : (v : Value) → PairOr I (stored_pair cells v)
      pair_shown (value.Pair p) = pair_at_holds I cells cells_hold p.0
      pair_shown value.Unspecified = tt
      pair_shown (value.Atom x) = tt
      pair_shown (value.Symbol x) = tt
      pair_shown (value.Vector p) = tt
      pair_shown (value.Str p) = tt
      pair_shown (value.Closure c p) = tt
      pair_shown (value.Prim op) = tt
      pair_shown (value.Syn t) = tt
      pair_shown (value.Transformer p) = tt

      vector_shown : (v : Value) → ValueHolds I v → ValuesOr I (vector_of cells v)
      vector_shown (value.Vector p) h = vector_at_holds I cells cells_hold p.0
      vector_shown (value.Syn (tree.atom s x)) h = tt
      vector_shown (value.Syn (tree.leaf s x c)) h = tt
      vector_shown (value.Syn (tree.pair s x d)) h = tt
      vector_shown (value.Syn (tree.vector s d)) h = trees_hold (elements d) (elements_of_tree d (parts.elements s d h))
      vector_shown value.Unspecified h = tt
      vector_shown (value.Atom x) h = tt
      vector_shown (value.Symbol x) h = tt
      vector_shown (value.Pair p) h = tt
      vector_shown (value.Str p) h = tt
      vector_shown (value.Closure c p) h = tt
      vector_shown (value.Prim op) h = tt
      vector_shown (value.Transformer p) h = tt

      store_front_holds : (left : ℕ) (room : Option ℕ) (done : List Value) (v : Value) → ValuesHold I done → ValueHolds I v → FrontHolds (store_front cells left room done v)
      store_front_holds zero room done v r k = (r, k)
      store_front_holds (suc left) room done v r k = by_room (has_room room (length done)) (store_front_holds left room)
        where
          by_pair : ((xs : List Value) (x : Value) → ValuesHold I xs → ValueHolds I x → FrontHolds (store_front cells left room xs x)) → (o : Option (Value × Value)) → PairOr I o
              → FrontHolds (on_pair o (fronted done v) (λ x rest. store_front cells left room (done ++ x ∷ []) rest))
          by_pair again None p = (r, k)
          by_pair again (Some q) p = again (done ++ q.0 ∷ []) q.1 (each-and (ValueHolds I) done q.0 r p.0) p.1

          by_room : (t : Bool) → ((xs : List Value) (x : Value) → ValuesHold I xs → ValueHolds I x → FrontHolds (store_front cells left room xs x))
              → FrontHolds (if t then on_pair (stored_pair cells v) (fronted done v) (λ x rest. store_front cells left room (done ++ x ∷ []) rest) else fronted done v)
          by_room true again = by_pair again (stored_pair cells v) (pair_shown v)
          by_room false again = (r, k)

    tree_front_holds : (room : Option ℕ) (t : Tree) (done : List Value) → ValuesHold I done → I.trees t → FrontHolds (tree_front room done t)
    tree_front_holds room (tree.atom s x) done r k = (r, k)
    tree_front_holds room (tree.leaf s x c) done r k = (r, k)
    tree_front_holds room (tree.pair s x d) done r k = by_room (has_room room (length done)) (tree_front_holds room d (done ++ value.Syn x ∷ []) (each-and (ValueHolds I) done (value.Syn x) r (parts.first s x d k)) (parts.rest s x d k))
      where
        by_room : (t : Bool) → FrontHolds (tree_front room (done ++ value.Syn x ∷ []) d)
            → FrontHolds (if t then tree_front room (done ++ value.Syn x ∷ []) d else fronted done (value.Syn (tree.pair s x d)))
        by_room true j = j
        by_room false j = (r, k)
    tree_front_holds room (tree.vector s d) done r k = (r, k)

    further_holds : (room : Option ℕ) (done : List Value) (v : Value) → ValuesHold I done → ValueHolds I v → FrontHolds (further room done v)
    further_holds room done (value.Syn t) r k = tree_front_holds room t done r k
    further_holds room done value.Unspecified r k = (r, k)
    further_holds room done (value.Atom x) r k = (r, k)
    further_holds room done (value.Symbol x) r k = (r, k)
    further_holds room done (value.Pair p) r k = (r, k)
    further_holds room done (value.Vector p) r k = (r, k)
    further_holds room done (value.Str p) r k = (r, k)
    further_holds room done (value.Closure c p) r k = (r, k)
    further_holds room done (value.Prim op) r k = (r, k)
    further_holds room done (value.Transformer p) r k = (r, k)

    front_holds : (cells : List Cell) → CellsHold I cells → (room : Option ℕ) (v : Value) → ValueHolds I v → FrontHolds (front cells room v)
    front_holds cells ch room v k =
        let f = store_front cells (length cells) room [] v in
        let h = store_front_holds cells ch (length cells) room [] v tt k in
        further_holds room f.elements f.rest h.0 h.1

    -- Patterns.

    module _ (cells : List Cell) (cells_hold : CellsHold I cells) (fs : Scope) where
      mutual
        pub matched_holds : (p : PlainPattern) (v : Value) (s : PatternBinds) → ValueHolds I v → AllBound s.binds → FoundOr (matched fs cells p v s)
        matched_holds any v s r b = b
        matched_holds (variable l) v s r b = each-and (λ (b : Label × PlainBind). BindHolds I b.1) s.binds (l, one v) b r
        matched_holds (literal t) v s r b = found_kept (is_alike fs t v) s b
        matched_holds (atom a) v s r b = found_kept (is_atom a (atom_of cells v)) s b
        matched_holds (list ps t) v s r b =
            let f = front cells (limit ps) v in
            let h = front_holds cells cells_hold (limit ps) v r in
            found_then (all_matched fs cells ps f.elements s) (matched fs cells t f.rest) (all_hold ps f.elements s h.0 b) (λ g k. matched_holds t f.rest g h.1 k)
        matched_holds (vector ps) v s r b = by_elements (vector_of cells v) (vector_shown cells cells_hold v r) (λ xs k. all_hold ps xs s k b)
          where
            by_elements : (o : Option (List Value)) → ValuesOr I o → ((xs : List Value) → ValuesHold I xs → FoundOr (all_matched fs cells ps xs s)) → FoundOr (on_elements o (λ xs. all_matched fs cells ps xs s))
            by_elements None h k = tt
            by_elements (Some xs) h k = k xs h

        all_hold : (ps : PlainPatterns) (xs : List Value) (s : PatternBinds) → ValuesHold I xs → AllBound s.binds → FoundOr (all_matched fs cells ps xs s)
        all_hold none [] s r b = b
        all_hold none (x ∷ xs) s r b = tt
        all_hold (more p ps) [] s r b = tt
        all_hold (more p ps) (x ∷ xs) s r b = found_then (matched fs cells p x s) (all_matched fs cells ps xs) (matched_holds p x s r.0 b) (λ g k. all_hold ps xs g r.1 k)
        all_hold (dots p ps) xs s r b =
            let n = length xs - count ps in
            let rows = repeated_hold (matched fs cells p) (λ v g k j. matched_holds p v g k j) (take n xs) (no_rows p s.taken) (empty_hold p [] tt) (each-taken (ValueHolds I) n xs r) in
            by_room (nat_le (count ps) (length xs)) (by_rows (repeated (matched fs cells p) (no_rows p s.taken) (take n xs)) rows (λ g k. all_hold ps (drop n xs) g (each-dropped (ValueHolds I) n xs r) k))
          where
            by_rows : (o : Option Rows) → RowsOr o → ((g : PatternBinds) → AllBound g.binds → FoundOr (all_matched fs cells ps (drop (length xs - count ps) xs) g))
                → FoundOr (and_then o (λ rows. all_matched fs cells ps (drop (length xs - count ps) xs) (with_rows s rows)))
            by_rows None h k = tt
            by_rows (Some rows) h k = k (with_rows s rows) (each-append (λ (b : Label × PlainBind). BindHolds I b.1) s.binds (closed rows.columns) b (closed_hold rows.columns h))

            by_room : (t : Bool)
                → FoundOr (and_then (repeated (matched fs cells p) (no_rows p s.taken) (take (length xs - count ps) xs)) (λ rows. all_matched fs cells ps (drop (length xs - count ps) xs) (with_rows s rows)))
                → FoundOr (if t then and_then (repeated (matched fs cells p) (no_rows p s.taken) (take (length xs - count ps) xs)) (λ rows. all_matched fs cells ps (drop (length xs - count ps) xs) (with_rows s rows)) else None)
            by_room true k = k
            by_room false k = tt
