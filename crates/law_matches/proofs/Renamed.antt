-- Matching with marks under other names.
use Rattle.std.proofs.Common.{◌≡◌, ℕ, zero, suc, ◌+◌, ◌-◌, Bool, true, false, List, [], ◌∷◌, ◌++◌, map, length, take, drop, Option, Some, None, refl, ap, sym, ◌∙◌, slice_get}
use Rattle.std.specs.Prelude.{option_map, nat_le, if◌then◌else◌}
use Rattle.std.proofs.lemmas.List.{map-append, length-map, take-map, drop-map}
use Rattle.std.proofs.lemmas.Option.{slice_get-map}
use Rattle.base_data.specs.declared.atom.Atom.TheVariants.{Str}
use Rattle.base_data.specs.declared.name.Label.{Label}
use Rattle.base_data.specs.declared.name.Mark.{Mark}
use Rattle.stx_tree.specs.Renaming.{IsOneToOne, renamed}
use Rattle.stx_tree.specs.Tree.{Tree, leaf, pair}
use Rattle.stx_tree.specs.Tree as tree
use Rattle.stx_frames.specs.Renaming.{renamed_scope}
use Rattle.stx_frames.specs.Scope.{Scope}
use Rattle.stx_scope.proofs.SameLaws.{same_binding-renamed}
use Rattle.core_language.specs.Pattern.{PlainPattern, any, variable, literal, atom, list, vector, PlainPatterns, none, more, dots}
use Rattle.core_shapes.specs.Lists.{elements}
use Rattle.eval_value.specs.Bind.{PlainBind, one, many, turns}
use Rattle.eval_value.specs.Bind as bind
use Rattle.eval_value.specs.Cells.{pair_in, vector_in, string_in, pair_at, vector_at, string_at}
use Rattle.eval_value.specs.declared.cell.Cell.{Cell}
use Rattle.eval_value.specs.declared.cell.Cell.TheVariants as cell
use Rattle.eval_value.specs.declared.value.Value.{Value}
use Rattle.eval_value.specs.declared.value.Value.TheVariants as value
use Rattle.eval_pattern.specs.Values.{tree_atom, atom_of, is_atom, is_alike, stored_pair, tree_vector, vector_of}
use Rattle.eval_pattern.specs.Front.{has_room, fronted, on_pair, store_front, tree_front, further, front}
use Rattle.eval_pattern.specs.Columns.{empty_column, empty_columns, all_empty_columns, with_bind, grown, closed}
use Rattle.eval_pattern.specs.Matched.{matched, all_matched, repeated, no_rows, with_rows, nothing, and_then, on_elements, at_end, kept, bound, count, limit, one_more}
use Rattle.eval_pattern.specs.declared.front.Front.{Front}
use Rattle.eval_pattern.specs.declared.columns.Column.{Column}
use Rattle.eval_pattern.specs.declared.columns.Rows.{Rows}
use Rattle.eval_pattern.specs.declared.columns.PatternBinds.{PatternBinds}
use Rattle.law_matches.specs.Renaming.{renamed_value, renamed_bind, renamed_binds, renamed_row, renamed_cell, renamed_pattern, renamed_patterns, renamed_found}

module _ (r : Mark → Mark) where
  abbrev values : List Value → List Value
  values xs = map (renamed_value r) xs

  abbrev both : Value × Value → Value × Value
  both p = (renamed_value r p.0, renamed_value r p.1)

  abbrev fronts : Front → Front
  fronts f = record { elements = values f.elements; rest = renamed_value r f.rest }

  abbrev column : Column → Column
  column c = record { label = c.label; binds = map (renamed_bind r) c.binds }

  abbrev rows_of : Rows → Rows
  rows_of x = record { columns = map column x.columns; taken = x.taken }

  -- Cells.
  pair-renamed : (c : Option Cell) → pair_in (option_map (renamed_cell r) c) ≡ option_map both (pair_in c)
  pair-renamed None = refl
  pair-renamed (Some (cell.Pair x y)) = refl
  pair-renamed (Some (cell.Vector xs)) = refl
  pair-renamed (Some (cell.Str s)) = refl
  pair-renamed (Some (cell.Scope xs p)) = refl
  pair-renamed (Some (cell.Binds xs p)) = refl
  pair-renamed (Some (cell.Transformer x)) = refl

  vector-renamed : (c : Option Cell) → vector_in (option_map (renamed_cell r) c) ≡ option_map values (vector_in c)
  vector-renamed None = refl
  vector-renamed (Some (cell.Pair x y)) = refl
  vector-renamed (Some (cell.Vector xs)) = refl
  vector-renamed (Some (cell.Str s)) = refl
  vector-renamed (Some (cell.Scope xs p)) = refl
  vector-renamed (Some (cell.Binds xs p)) = refl
  vector-renamed (Some (cell.Transformer x)) = refl

  string-renamed : (c : Option Cell) → string_in (option_map (renamed_cell r) c) ≡ string_in c
  string-renamed None = refl
  string-renamed (Some (cell.Pair x y)) = refl
  string-renamed (Some (cell.Vector xs)) = refl
  string-renamed (Some (cell.Str s)) = refl
  string-renamed (Some (cell.Scope xs p)) = refl
  string-renamed (Some (cell.Binds xs p)) = refl
  string-renamed (Some (cell.Transformer x)) = refl

  module _ (cells : List Cell) where
    abbrev other : List Cell
    other = map (renamed_cell r) cells

    pair_at-renamed : (n : ℕ) → pair_at other n ≡ option_map both (pair_at cells n)
    pair_at-renamed n = ap pair_in (slice_get-map (renamed_cell r) cells n) ∙ pair-renamed (slice_get cells n)

    vector_at-renamed : (n : ℕ) → vector_at other n ≡ option_map values (vector_at cells n)
    vector_at-renamed n = ap vector_in (slice_get-map (renamed_cell r) cells n) ∙ vector-renamed (slice_get cells n)

    string_at-renamed : (n : ℕ) → string_at other n ≡ string_at cells n
    string_at-renamed n = ap string_in (slice_get-map (renamed_cell r) cells n) ∙ string-renamed (slice_get cells n)

    -- Values.
    tree_atom-renamed : (t : Tree) → tree_atom (renamed r t) ≡ tree_atom t
    tree_atom-renamed (tree.atom s a) = refl
    tree_atom-renamed (leaf s x c) = refl
    tree_atom-renamed (pair s a d) = refl
    tree_atom-renamed (tree.vector s d) = refl

    atom_of-renamed : (v : Value) → atom_of other (renamed_value r v) ≡ atom_of cells v
    atom_of-renamed value.Unspecified = refl
    atom_of-renamed (value.Atom a) = refl
    atom_of-renamed (value.Symbol s) = refl
    atom_of-renamed (value.Pair p) = refl
    atom_of-renamed (value.Vector p) = refl
    atom_of-renamed (value.Str p) = ap (option_map Str) (string_at-renamed p.0)
    atom_of-renamed (value.Closure c p) = refl
    atom_of-renamed (value.Prim o) = refl
    atom_of-renamed (value.Syn t) = tree_atom-renamed t
    atom_of-renamed (value.Transformer p) = refl

    stored_pair-renamed : (v : Value) → stored_pair other (renamed_value r v) ≡ option_map both (stored_pair cells v)
    stored_pair-renamed value.Unspecified = refl
    stored_pair-renamed (value.Atom a) = refl
    stored_pair-renamed (value.Symbol s) = refl
    stored_pair-renamed (value.Pair p) = pair_at-renamed p.0
    stored_pair-renamed (value.Vector p) = refl
    stored_pair-renamed (value.Str p) = refl
    stored_pair-renamed (value.Closure c p) = refl
    stored_pair-renamed (value.Prim o) = refl
    stored_pair-renamed (value.Syn t) = refl
    stored_pair-renamed (value.Transformer p) = refl

    elements-renamed : (t : Tree) → map value.Syn (elements (renamed r t)) ≡ values (map value.Syn (elements t))
    elements-renamed (tree.atom s a) = refl
    elements-renamed (leaf s x c) = refl
    elements-renamed (pair s a d) = ap (λ xs. value.Syn (renamed r a) ∷ xs) (elements-renamed d)
    elements-renamed (tree.vector s d) = refl

    tree_vector-renamed : (t : Tree) → tree_vector (renamed r t) ≡ option_map values (tree_vector t)
    tree_vector-renamed (tree.atom s a) = refl
    tree_vector-renamed (leaf s x c) = refl
    tree_vector-renamed (pair s a d) = refl
    tree_vector-renamed (tree.vector s d) = ap Some (elements-renamed d)

    vector_of-renamed : (v : Value) → vector_of other (renamed_value r v) ≡ option_map values (vector_of cells v)
    vector_of-renamed value.Unspecified = refl
    vector_of-renamed (value.Atom a) = refl
    vector_of-renamed (value.Symbol s) = refl
    vector_of-renamed (value.Pair p) = refl
    vector_of-renamed (value.Vector p) = vector_at-renamed p.0
    vector_of-renamed (value.Str p) = refl
    vector_of-renamed (value.Closure c p) = refl
    vector_of-renamed (value.Prim o) = refl
    vector_of-renamed (value.Syn t) = tree_vector-renamed t
    vector_of-renamed (value.Transformer p) = refl

    -- First elements.
    room-renamed : (o : Option ℕ) (done : List Value) → has_room o (length (values done)) ≡ has_room o (length done)
    room-renamed o done = ap (has_room o) (length-map done (renamed_value r))

    done-renamed : (done : List Value) (x : Value) → values (done ++ x ∷ []) ≡ values done ++ renamed_value r x ∷ []
    done-renamed done x = map-append (renamed_value r) done (x ∷ [])

    store_front-renamed : (n : ℕ) (o : Option ℕ) (done : List Value) (v : Value) → store_front other n o (values done) (renamed_value r v) ≡ fronts (store_front cells n o done v)
    store_front-renamed zero o done v = refl
    store_front-renamed (suc n) o done v =
        ap (λ b. if b then on_pair (stored_pair other (renamed_value r v)) (fronted (values done) (renamed_value r v)) (λ x rest. store_front other n o (values done ++ x ∷ []) rest) else fronted (values done) (renamed_value r v)) (room-renamed o done)
        ∙ ap (λ p. if has_room o (length done) then on_pair p (fronted (values done) (renamed_value r v)) (λ x rest. store_front other n o (values done ++ x ∷ []) rest) else fronted (values done) (renamed_value r v)) (stored_pair-renamed v)
        ∙ go (λ x rest. ap (λ xs. store_front other n o xs (renamed_value r rest)) (sym (done-renamed done x)) ∙ store_front-renamed n o (done ++ x ∷ []) rest) (has_room o (length done)) (stored_pair cells v)
      where
        go : ((x rest : Value) → store_front other n o (values done ++ renamed_value r x ∷ []) (renamed_value r rest) ≡ fronts (store_front cells n o (done ++ x ∷ []) rest)) → (b : Bool) (p : Option (Value × Value))
            → (if b then on_pair (option_map both p) (fronted (values done) (renamed_value r v)) (λ x rest. store_front other n o (values done ++ x ∷ []) rest) else fronted (values done) (renamed_value r v))
            ≡ fronts (if b then on_pair p (fronted done v) (λ x rest. store_front cells n o (done ++ x ∷ []) rest) else fronted done v)
        go ih false p = refl
        go ih true None = refl
        go ih true (Some p) = ih p.0 p.1

    tree_front-renamed : (t : Tree) (o : Option ℕ) (done : List Value) → tree_front o (values done) (renamed r t) ≡ fronts (tree_front o done t)
    tree_front-renamed (tree.atom s a) o done = refl
    tree_front-renamed (leaf s x c) o done = refl
    tree_front-renamed (pair s a d) o done =
        ap (λ b. if b then tree_front o (values done ++ value.Syn (renamed r a) ∷ []) (renamed r d) else fronted (values done) (value.Syn (renamed r (pair s a d)))) (room-renamed o done)
        ∙ go (ap (λ xs. tree_front o xs (renamed r d)) (sym (done-renamed done (value.Syn a))) ∙ tree_front-renamed d o (done ++ value.Syn a ∷ [])) (has_room o (length done))
      where
        go : tree_front o (values done ++ value.Syn (renamed r a) ∷ []) (renamed r d) ≡ fronts (tree_front o (done ++ value.Syn a ∷ []) d) → (b : Bool)
            → (if b then tree_front o (values done ++ value.Syn (renamed r a) ∷ []) (renamed r d) else fronted (values done) (value.Syn (renamed r (pair s a d))))
            ≡ fronts (if b then tree_front o (done ++ value.Syn a ∷ []) d else fronted done (value.Syn (pair s a d)))
        go ih false = refl
        go ih true = ih
    tree_front-renamed (tree.vector s d) o done = refl

    further-renamed : (o : Option ℕ) (done : List Value) (v : Value) → further o (values done) (renamed_value r v) ≡ fronts (further o done v)
    further-renamed o done value.Unspecified = refl
    further-renamed o done (value.Atom a) = refl
    further-renamed o done (value.Symbol s) = refl
    further-renamed o done (value.Pair p) = refl
    further-renamed o done (value.Vector p) = refl
    further-renamed o done (value.Str p) = refl
    further-renamed o done (value.Closure c p) = refl
    further-renamed o done (value.Prim x) = refl
    further-renamed o done (value.Syn t) = tree_front-renamed t o done
    further-renamed o done (value.Transformer p) = refl

    front-renamed : (o : Option ℕ) (v : Value) → front other o (renamed_value r v) ≡ fronts (front cells o v)
    front-renamed o v =
        ap (λ n. further o (store_front other n o [] (renamed_value r v)).elements (store_front other n o [] (renamed_value r v)).rest) (length-map cells (renamed_cell r))
        ∙ ap (λ (f : Front). further o f.elements f.rest) (store_front-renamed (length cells) o [] v)
        ∙ further-renamed o (store_front cells (length cells) o [] v).elements (store_front cells (length cells) o [] v).rest

  -- Columns.
  mutual
    empty-renamed : (p : PlainPattern) (cols : List Column) → empty_columns (renamed_pattern r p) (map column cols) ≡ map column (empty_columns p cols)
    empty-renamed any cols = refl
    empty-renamed (variable l) cols = sym (map-append column cols (empty_column l ∷ []))
    empty-renamed (literal t) cols = refl
    empty-renamed (atom a) cols = refl
    empty-renamed (list ps t) cols = ap (empty_columns (renamed_pattern r t)) (all_empty-renamed ps cols) ∙ empty-renamed t (all_empty_columns ps cols)
    empty-renamed (vector ps) cols = all_empty-renamed ps cols

    all_empty-renamed : (ps : PlainPatterns) (cols : List Column) → all_empty_columns (renamed_patterns r ps) (map column cols) ≡ map column (all_empty_columns ps cols)
    all_empty-renamed none cols = refl
    all_empty-renamed (more p ps) cols = ap (all_empty_columns (renamed_patterns r ps)) (empty-renamed p cols) ∙ all_empty-renamed ps (empty_columns p cols)
    all_empty-renamed (dots p ps) cols = ap (all_empty_columns (renamed_patterns r ps)) (empty-renamed p cols) ∙ all_empty-renamed ps (empty_columns p cols)

  with_bind-renamed : (c : Column) (b : PlainBind) → with_bind (column c) (renamed_bind r b) ≡ column (with_bind c b)
  with_bind-renamed c b = λ i. record { label = c.label; binds = sym (map-append (renamed_bind r) c.binds (b ∷ [])) i }

  grown-renamed : (done cols : List Column) (row : List (Label × PlainBind)) → grown (map column done) (map column cols) (map (renamed_row r) row) ≡ map column (grown done cols row)
  grown-renamed done [] row = refl
  grown-renamed done (c ∷ cols) [] = refl
  grown-renamed done (c ∷ cols) (b ∷ row) =
      ap (λ x. grown (map column done ++ x ∷ []) (map column cols) (map (renamed_row r) row)) (with_bind-renamed c b.1)
      ∙ ap (λ xs. grown xs (map column cols) (map (renamed_row r) row)) (sym (map-append column done (with_bind c b.1 ∷ [])))
      ∙ grown-renamed (done ++ with_bind c b.1 ∷ []) cols row

  turns-renamed : (bs : List PlainBind) → turns (map (renamed_bind r) bs) ≡ renamed_binds r (turns bs)
  turns-renamed [] = refl
  turns-renamed (b ∷ bs) = λ i. bind.more (renamed_bind r b) (turns-renamed bs i)

  closed-renamed : (cols : List Column) → closed (map column cols) ≡ map (renamed_row r) (closed cols)
  closed-renamed [] = refl
  closed-renamed (c ∷ cols) = λ i. (c.label, many (turns-renamed c.binds i)) ∷ closed-renamed cols i

  count-renamed : (ps : PlainPatterns) → count (renamed_patterns r ps) ≡ count ps
  count-renamed none = refl
  count-renamed (more p ps) = ap suc (count-renamed ps)
  count-renamed (dots p ps) = count-renamed ps

  limit-renamed : (ps : PlainPatterns) → limit (renamed_patterns r ps) ≡ limit ps
  limit-renamed none = refl
  limit-renamed (more p ps) = ap one_more (limit-renamed ps)
  limit-renamed (dots p ps) = refl

  -- Matching.
  abbrev found : Option PatternBinds → Option PatternBinds
  found o = option_map (renamed_found r) o

  kept-renamed : (b : Bool) (s : PatternBinds) → kept b (renamed_found r s) ≡ found (kept b s)
  kept-renamed true s = refl
  kept-renamed false s = refl

  bound-renamed : (l : Label) (v : Value) (s : PatternBinds) → bound l (renamed_value r v) (renamed_found r s) ≡ renamed_found r (bound l v s)
  bound-renamed l v s = λ i. record { binds = sym (map-append (renamed_row r) s.binds ((l, one v) ∷ [])) i; taken = s.taken }

  with_rows-renamed : (s : PatternBinds) (x : Rows) → with_rows (renamed_found r s) (rows_of x) ≡ renamed_found r (with_rows s x)
  with_rows-renamed s x = λ i. record { binds = ((ap (λ ys. map (renamed_row r) s.binds ++ ys) (closed-renamed x.columns)) ∙ sym (map-append (renamed_row r) s.binds (closed x.columns))) i; taken = x.taken }

  -- one after another
  then-renamed : {A : Type 0} (h : A → A) (x : Option A) (k l : A → Option PatternBinds) → ((a : A) → l (h a) ≡ found (k a)) → and_then (option_map h x) l ≡ found (and_then x k)
  then-renamed h None k l same = refl
  then-renamed h (Some a) k l same = same a

  repeated-renamed : (go to : Value → PatternBinds → Option PatternBinds) → ((v : Value) (s : PatternBinds) → to (renamed_value r v) (renamed_found r s) ≡ found (go v s)) → (x : Rows) (xs : List Value)
      → repeated to (rows_of x) (values xs) ≡ option_map rows_of (repeated go x xs)
  repeated-renamed go to same x [] = refl
  repeated-renamed go to same x (v ∷ vs) =
      ap (λ o. and_then o (λ row. repeated to (record { columns = grown [] (map column x.columns) row.binds; taken = row.taken }) (values vs))) (same v (nothing (x.taken + 1)))
      ∙ on (λ y. repeated-renamed go to same y vs) (go v (nothing (x.taken + 1)))
    where
      on : ((y : Rows) → repeated to (rows_of y) (values vs) ≡ option_map rows_of (repeated go y vs)) → (o : Option PatternBinds)
          → and_then (found o) (λ row. repeated to (record { columns = grown [] (map column x.columns) row.binds; taken = row.taken }) (values vs))
          ≡ option_map rows_of (and_then o (λ row. repeated go (record { columns = grown [] x.columns row.binds; taken = row.taken }) vs))
      on ih None = refl
      on ih (Some row) =
          ap (λ cols. repeated to (record { columns = cols; taken = row.taken }) (values vs)) (grown-renamed [] x.columns row.binds)
          ∙ ih (record { columns = grown [] x.columns row.binds; taken = row.taken })

  at_end-renamed : (xs : List Value) (s : PatternBinds) → at_end (values xs) (renamed_found r s) ≡ found (at_end xs s)
  at_end-renamed [] s = refl
  at_end-renamed (x ∷ xs) s = refl

  module _ (one_to_one : IsOneToOne r) (fs : Scope) (cells : List Cell) where
    abbrev fs' : Scope
    fs' = renamed_scope r fs

    abbrev cells' : List Cell
    cells' = map (renamed_cell r) cells

    alike_leaf : (t u : Tree) → is_alike fs' (renamed r t) (value.Syn (renamed r u)) ≡ is_alike fs t (value.Syn u)
    alike_leaf t (tree.atom s a) = refl
    alike_leaf t (leaf s x c) = same_binding-renamed r one_to_one fs t (leaf s x c)
    alike_leaf t (pair s a d) = refl
    alike_leaf t (tree.vector s d) = refl

    is_alike-renamed : (t : Tree) (v : Value) → is_alike fs' (renamed r t) (renamed_value r v) ≡ is_alike fs t v
    is_alike-renamed t value.Unspecified = refl
    is_alike-renamed t (value.Atom a) = refl
    is_alike-renamed t (value.Symbol s) = refl
    is_alike-renamed t (value.Pair p) = refl
    is_alike-renamed t (value.Vector p) = refl
    is_alike-renamed t (value.Str p) = refl
    is_alike-renamed t (value.Closure c p) = refl
    is_alike-renamed t (value.Prim o) = refl
    is_alike-renamed t (value.Syn u) = alike_leaf t u
    is_alike-renamed t (value.Transformer p) = refl

    abbrev Same : PlainPattern → Type 0
    Same p = (v : Value) (s : PatternBinds) → matched fs' cells' (renamed_pattern r p) (renamed_value r v) (renamed_found r s) ≡ found (matched fs cells p v s)

    abbrev AllSame : PlainPatterns → Type 0
    AllSame ps = (xs : List Value) (s : PatternBinds) → all_matched fs' cells' (renamed_patterns r ps) (values xs) (renamed_found r s) ≡ found (all_matched fs cells ps xs s)

    list_same : (ps : PlainPatterns) (t : PlainPattern) → AllSame ps → Same t → Same (list ps t)
    list_same ps t all last v s =
        ap (λ o. let f = front cells' o (renamed_value r v) in and_then (all_matched fs' cells' (renamed_patterns r ps) f.elements (renamed_found r s)) (matched fs' cells' (renamed_pattern r t) f.rest)) (limit-renamed ps)
        ∙ ap (λ (f : Front). and_then (all_matched fs' cells' (renamed_patterns r ps) f.elements (renamed_found r s)) (matched fs' cells' (renamed_pattern r t) f.rest)) (front-renamed cells (limit ps) v)
        ∙ ap (λ o. and_then o (matched fs' cells' (renamed_pattern r t) (renamed_value r (front cells (limit ps) v).rest))) (all (front cells (limit ps) v).elements s)
        ∙ then-renamed (renamed_found r) (all_matched fs cells ps (front cells (limit ps) v).elements s) (matched fs cells t (front cells (limit ps) v).rest)
        (matched fs' cells' (renamed_pattern r t) (renamed_value r (front cells (limit ps) v).rest)) (last (front cells (limit ps) v).rest)

    vector_same : (ps : PlainPatterns) → AllSame ps → Same (vector ps)
    vector_same ps all v s = ap (λ o. on_elements o (λ xs. all_matched fs' cells' (renamed_patterns r ps) xs (renamed_found r s))) (vector_of-renamed cells v) ∙ on (vector_of cells v)
      where
        on : (o : Option (List Value)) → on_elements (option_map values o) (λ xs. all_matched fs' cells' (renamed_patterns r ps) xs (renamed_found r s)) ≡ found (on_elements o (λ xs. all_matched fs cells ps xs s))
        on None = refl
        on (Some xs) = all xs s

    more_same : (p : PlainPattern) (ps : PlainPatterns) → Same p → AllSame ps → AllSame (more p ps)
    more_same p ps here all [] s = refl
    more_same p ps here all (x ∷ xs) s =
        ap (λ o. and_then o (all_matched fs' cells' (renamed_patterns r ps) (values xs))) (here x s)
        ∙ then-renamed (renamed_found r) (matched fs cells p x s) (all_matched fs cells ps xs) (all_matched fs' cells' (renamed_patterns r ps) (values xs)) (all xs)

    abbrev rest_by : PlainPatterns → List Value → PatternBinds → ℕ → Rows → Option PatternBinds
    rest_by ps xs s n x = all_matched fs' cells' (renamed_patterns r ps) (drop n (values xs)) (with_rows (renamed_found r s) x)

    abbrev dots_by : PlainPattern → PlainPatterns → List Value → PatternBinds → ℕ → ℕ → Option PatternBinds
    dots_by p ps xs s k n =
        if nat_le k n then and_then (repeated (matched fs' cells' (renamed_pattern r p)) (no_rows (renamed_pattern r p) s.taken) (take (n - k) (values xs))) (rest_by ps xs s (n - k)) else None

    rest_same : (ps : PlainPatterns) → AllSame ps → (xs : List Value) (s : PatternBinds) (n : ℕ) (x : Rows) → rest_by ps xs s n (rows_of x) ≡ found (all_matched fs cells ps (drop n xs) (with_rows s x))
    rest_same ps all xs s n x =
        ap (λ ys. all_matched fs' cells' (renamed_patterns r ps) ys (with_rows (renamed_found r s) (rows_of x))) (drop-map (renamed_value r) n xs)
        ∙ ap (all_matched fs' cells' (renamed_patterns r ps) (values (drop n xs))) (with_rows-renamed s x) ∙ all (drop n xs) (with_rows s x)

    none_same : (p : PlainPattern) (taken : ℕ) → no_rows (renamed_pattern r p) taken ≡ rows_of (no_rows p taken)
    none_same p taken = ap (λ cols. record { columns = cols; taken = taken }) (empty-renamed p [])

    dots_true : (p : PlainPattern) (ps : PlainPatterns) → Same p → AllSame ps → (xs : List Value) (s : PatternBinds) (n : ℕ)
        → and_then (repeated (matched fs' cells' (renamed_pattern r p)) (no_rows (renamed_pattern r p) s.taken) (take n (values xs))) (rest_by ps xs s n)
        ≡ found (and_then (repeated (matched fs cells p) (no_rows p s.taken) (take n xs)) (λ rows. all_matched fs cells ps (drop n xs) (with_rows s rows)))
    dots_true p ps here all xs s n =
        ap (λ ys. and_then (repeated (matched fs' cells' (renamed_pattern r p)) (no_rows (renamed_pattern r p) s.taken) ys) (rest_by ps xs s n)) (take-map (renamed_value r) n xs)
        ∙ ap (λ x. and_then (repeated (matched fs' cells' (renamed_pattern r p)) x (values (take n xs))) (rest_by ps xs s n)) (none_same p s.taken)
        ∙ ap (λ o. and_then o (rest_by ps xs s n)) (repeated-renamed (matched fs cells p) (matched fs' cells' (renamed_pattern r p)) here (no_rows p s.taken) (take n xs))
        ∙ then-renamed rows_of (repeated (matched fs cells p) (no_rows p s.taken) (take n xs)) (λ rows. all_matched fs cells ps (drop n xs) (with_rows s rows)) (rest_by ps xs s n) (rest_same ps all xs s n)

    dots_same : (p : PlainPattern) (ps : PlainPatterns) → Same p → AllSame ps → AllSame (dots p ps)
    dots_same p ps here all xs s =
        (λ i. dots_by p ps xs s (count-renamed ps i) (length-map xs (renamed_value r) i)) ∙ go (nat_le (count ps) (length xs))
      where
        go : (b : Bool)
            → (if b then and_then (repeated (matched fs' cells' (renamed_pattern r p)) (no_rows (renamed_pattern r p) s.taken) (take (length xs - count ps) (values xs))) (rest_by ps xs s (length xs - count ps)) else None)
            ≡ found (if b then and_then (repeated (matched fs cells p) (no_rows p s.taken) (take (length xs - count ps) xs)) (λ rows. all_matched fs cells ps (drop (length xs - count ps) xs) (with_rows s rows)) else None)
        go false = refl
        go true = dots_true p ps here all xs s (length xs - count ps)

    mutual
      pub same : (p : PlainPattern) → Same p
      same any v s = refl
      same (variable l) v s = ap Some (bound-renamed l v s)
      same (literal t) v s = ap (λ b. kept b (renamed_found r s)) (is_alike-renamed t v) ∙ kept-renamed (is_alike fs t v) s
      same (atom a) v s = ap (λ o. kept (is_atom a o) (renamed_found r s)) (atom_of-renamed cells v) ∙ kept-renamed (is_atom a (atom_of cells v)) s
      same (list ps t) v s = list_same ps t (all_same ps) (same t) v s
      same (vector ps) v s = vector_same ps (all_same ps) v s

      pub all_same : (ps : PlainPatterns) → AllSame ps
      all_same none xs s = at_end-renamed xs s
      all_same (more p ps) xs s = more_same p ps (same p) (all_same ps) xs s
      all_same (dots p ps) xs s = dots_same p ps (same p) (all_same ps) xs s
