-- The pattern of inserts takes the list of their values.
use Rattle.std.proofs.Common.{◌≡◌, ℕ, suc, ◌+◌, List, [], ◌∷◌, ◌++◌, length, map, Option, None, Some, refl, sym, ap, subst, ◌∙◌, append_assoc}
use Rattle.std.proofs.lemmas.List.{append-nil}
use Rattle.base_data.specs.declared.atom.Atom.TheVariants as a
use Rattle.base_data.specs.declared.name.Label.{Label}
use Rattle.stx_frames.specs.Scope.{Scope}
use Rattle.core_language.specs.Pattern.{PlainPattern, variable, none, dots, patterns}
use Rattle.eval_value.specs.Bind.{PlainBind, one, many, turns}
use Rattle.eval_value.specs.declared.value.Value.{Value}
use Rattle.eval_value.specs.declared.value.Value.TheVariants as value
use Rattle.eval_value.specs.declared.cell.Cell.{Cell}
use Rattle.eval_prims.specs.Chains as chains
use Rattle.law_lists.specs.Runs.{Runs, here as run_here, next as run_next}
use Rattle.law_lists.proofs.RunLemmas.{Stay, pair_still}
use Rattle.eval_pattern.specs.Columns.{closed, empty_columns}
use Rattle.eval_pattern.specs.Matched.{limit, one_more as more_limit}
use Rattle.eval_pattern.specs.Values.{atom_of}
use Rattle.eval_pattern.specs.declared.columns.Column.{Column}
use Rattle.eval_pattern.specs.declared.compile.PatternVariable.{PatternVariable}
use Rattle.law_matches.specs.Matches.{MatchBinds, pair_of, stacked, IsLast, Begins, here, next, Matches, takes_variable, takes_atom, takes_list, Fills, no_more, one_more, all_but, Repeats, no_rows, one_row}
use Rattle.expand_quasi.specs.Inserted.{listed, pattern_under, insert_pattern, inserts_pattern}
use Rattle.law_insert_code.specs.Inserted.{IsEmpty, stored, written, IsListOf, IsBoundTo, as_it_is, by_elements, AreBoundTo, no_insert, one_insert}

-- Pairs.

module _ (cells : List Cell) where
  pair_seen : (v x d : Value) → chains.pair_of cells v ≡ Some (x, d) → pair_of cells v ≡ Some (x, d)
  pair_seen (value.Pair p) x d e = e
  pair_seen value.Unspecified x d e = absurd (cc)
  pair_seen (value.Atom b) x d e = absurd (cc)
  pair_seen (value.Symbol b) x d e = absurd (cc)
  pair_seen (value.Vector p) x d e = absurd (cc)
  pair_seen (value.Str p) x d e = absurd (cc)
  pair_seen (value.Closure c p) x d e = absurd (cc)
  pair_seen (value.Prim o) x d e = absurd (cc)
  pair_seen (value.Syn t) x d e = absurd (cc)
  pair_seen (value.Transformer p) x d e = absurd (cc)

  pub begun : {xs : List Value} {r v : Value} → Runs cells xs r v → Begins cells xs r v
  begun run_here = here
  begun (run_next {y = y} {d = d} {x = x} e rest) = next (pair_seen x y d e) (begun rest)

module _ (old new : List Cell) (stay : Stay old new) where
  pair_stays : (v x d : Value) → pair_of old v ≡ Some (x, d) → pair_of new v ≡ Some (x, d)
  pair_stays (value.Pair p) x d e = pair_still old new stay (value.Pair p) x d e
  pair_stays (value.Syn t) x d e = e
  pair_stays value.Unspecified x d e = absurd (cc)
  pair_stays (value.Atom b) x d e = absurd (cc)
  pair_stays (value.Symbol b) x d e = absurd (cc)
  pair_stays (value.Vector p) x d e = absurd (cc)
  pair_stays (value.Str p) x d e = absurd (cc)
  pair_stays (value.Closure c p) x d e = absurd (cc)
  pair_stays (value.Prim o) x d e = absurd (cc)
  pair_stays (value.Transformer p) x d e = absurd (cc)

  begins_still : {xs : List Value} {r v : Value} → Begins old xs r v → Begins new xs r v
  begins_still here = here
  begins_still (next {x = x} {d = d} {v = v} e b) = next (pair_stays v x d e) (begins_still b)

  bound_still : {x : PatternVariable} {v : Value} {b : PlainBind} → IsBoundTo old x v b → IsBoundTo new x v b
  bound_still (as_it_is e) = as_it_is e
  bound_still (by_elements e l) = by_elements e (record { end = l.end; begins = begins_still l.begins; empty = l.empty })

  pub all_still : {xs : List PatternVariable} {vs : List Value} {bs : MatchBinds} → AreBoundTo old xs vs bs → AreBoundTo new xs vs bs
  all_still no_insert = no_insert
  all_still (one_insert h k) = one_insert (bound_still h) (all_still k)

-- The elements of a splice.

-- a row for each element, and what these take

abbrev rows_of : Label → List Value → List MatchBinds
rows_of l [] = []
rows_of l (x ∷ xs) = ((l, one x) ∷ []) ∷ rows_of l xs

abbrev rows_take : List Value → ℕ
rows_take [] = 0
rows_take (x ∷ xs) = suc (0 + rows_take xs)

abbrev column : Label → List PlainBind → List Column
column l bs = record { label = l; binds = bs } ∷ []

one_column : (l : Label) (bs : List PlainBind) (xs : List Value) → stacked (column l bs) (rows_of l xs) ≡ column l (bs ++ map one xs)
one_column l bs [] = ap (column l) (sym (append-nil bs))
one_column l bs (x ∷ xs) = one_column l (bs ++ one x ∷ []) xs ∙ ap (column l) (append_assoc bs (one x ∷ []) (map one xs))

empty_ends : (cells : List Cell) (v : Value) → IsEmpty v → pair_of cells v ≡ None
empty_ends cells v stored = refl
empty_ends cells v written = refl

empty_is : (cells : List Cell) (v : Value) → IsEmpty v → atom_of cells v ≡ Some a.Nil
empty_is cells v stored = refl
empty_is cells v written = refl

-- these patterns take no more than so many elements
limited : (ps : List PlainPattern) → limit (patterns ps) ≡ Some (length ps)
limited [] = refl
limited (p ∷ ps) = ap more_limit (limited ps)

module _ (fs : Scope) (cells : List Cell) where
  -- a pattern takes a value with these binds
  pub record Takes (p : PlainPattern) (v : Value) (bs : MatchBinds) : Type 0 where
    pub count : ℕ
    pub matches : Matches fs cells p v bs count

  record Fill (xs : List PatternVariable) (vs : List Value) (bs : MatchBinds) : Type 0 where
    count : ℕ
    fills : Fills fs cells (patterns (map insert_pattern xs)) vs bs count

  each_repeats : (l : Label) (xs : List Value) → Repeats fs cells (variable l) xs (rows_of l xs) (rows_take xs)
  each_repeats l [] = no_rows
  each_repeats l (x ∷ xs) = one_row takes_variable (each_repeats l xs)

  elements_fill : (l : Label) (xs : List Value) → Fills fs cells (dots (variable l) none) xs ((l, many (turns (map one xs))) ∷ []) (rows_take xs + 0)
  elements_fill l xs =
      let e : closed (stacked (empty_columns (variable l) []) (rows_of l xs)) ++ [] ≡ (l, many (turns (map one xs))) ∷ [] = ap (λ cols. closed cols ++ []) (one_column l [] xs) in
      let f : Fills fs cells (dots (variable l) none) (xs ++ []) (closed (stacked (empty_columns (variable l) []) (rows_of l xs)) ++ []) (rows_take xs + 0) = all_but (each_repeats l xs) refl no_more in
      subst (λ (ys : List Value). Fills fs cells (dots (variable l) none) ys ((l, many (turns (map one xs))) ∷ []) (rows_take xs + 0)) (append-nil xs)
      (subst (λ (bs : MatchBinds). Fills fs cells (dots (variable l) none) (xs ++ []) bs (rows_take xs + 0)) e f)

  listed_takes : (l : Label) (xs : List Value) (v : Value) → IsListOf cells xs v → Takes (listed (variable l)) v ((l, many (turns (map one xs))) ∷ [])
  listed_takes l xs v h = record {
    count = (rows_take xs + 0) + 0;
    matches = takes_list h.begins (empty_ends cells h.end h.empty) (elements_fill l xs) (takes_atom (empty_is cells h.end h.empty));
  }

  insert_takes : (x : PatternVariable) (v : Value) (b : PlainBind) → IsBoundTo cells x v b → Takes (insert_pattern x) v ((x.label, b) ∷ [])
  insert_takes x v b (as_it_is e) = subst (λ (d : ℕ). Takes (pattern_under d (variable x.label)) v ((x.label, one v) ∷ [])) (sym e) (record { count = 0; matches = takes_variable })
  insert_takes x v b (by_elements {xs = xs} e h) =
      subst (λ (d : ℕ). Takes (pattern_under d (variable x.label)) v ((x.label, many (turns (map one xs))) ∷ [])) (sym e) (listed_takes x.label xs v h)

  inserts_fill : (xs : List PatternVariable) (vs : List Value) (bs : MatchBinds) → AreBoundTo cells xs vs bs → Fill xs vs bs
  inserts_fill xs vs bs no_insert = record { count = 0; fills = no_more }
  inserts_fill xs vs bs (one_insert {x = x} {xs = ys} {v = v} {vs = us} {b = b} {bs = cs} h k) =
      let first = insert_takes x v b h in
      let rest = inserts_fill ys us cs k in
      record { count = first.count + rest.count; fills = one_more first.matches rest.fills }

  pub inserts_take : (xs : List PatternVariable) (vs : List Value) (bs : MatchBinds) (v : Value) → AreBoundTo cells xs vs bs → Begins cells vs (value.Atom a.Nil) v
      → Takes (inserts_pattern xs) v bs
  inserts_take xs vs bs v h b =
      let f = inserts_fill xs vs bs h in
      let last : IsLast cells (limit (patterns (map insert_pattern xs))) (value.Atom a.Nil) = subst (λ (o : Option ℕ). IsLast cells o (value.Atom a.Nil)) (sym (limited (map insert_pattern xs))) tt in
      let m : Matches fs cells (inserts_pattern xs) v (bs ++ []) (f.count + 0) = takes_list b last f.fills (takes_atom refl) in
      record { count = f.count + 0; matches = subst (λ (cs : MatchBinds). Matches fs cells (inserts_pattern xs) v cs (f.count + 0)) (append-nil bs) m }
