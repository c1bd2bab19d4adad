-- A match by the cases of the report is a match as the matcher's definitions tell it.
use Rattle.std.proofs.Common.{◌≡◌, ℕ, suc, ◌+◌, true, List, [], ◌∷◌, ◌++◌, length, map, drop, Option, Some, None, refl, ap, sym, subst, ◌∙◌, append_assoc, append-nil}
use Rattle.std.specs.Prelude.{flat_map, option_map}
use Rattle.base_data.specs.declared.atom.Atom.{Atom}
use Rattle.base_data.specs.declared.atom.Atom.TheVariants.{Str}
use Rattle.stx_tree.specs.Tree.{Tree, atom, leaf, pair, vector}
use Rattle.stx_frames.specs.Scope.{Scope}
use Rattle.core_language.specs.Pattern.{PlainPattern, PlainPatterns, none, more, dots}
use Rattle.eval_value.specs.Bind.{PlainBind, many, turns}
use Rattle.eval_value.specs.Cells.{FitsIn, WholeCells, string_at}
use Rattle.eval_value.specs.declared.cell.Cell.{Cell}
use Rattle.eval_value.specs.declared.value.Value.{Value}
use Rattle.eval_value.specs.declared.value.Value.TheVariants as value
use Rattle.eval_pattern.specs.Values.{atom_of, is_alike, vector_of}
use Rattle.eval_pattern.specs.Columns.{empty_columns, closed}
use Rattle.eval_pattern.specs.Matched.{matched, nothing, limit, one_more}
use Rattle.eval_pattern.specs.Matched as matching
use Rattle.eval_pattern.specs.declared.columns.Column.{Column}
use Rattle.eval_pattern.specs.declared.columns.PatternBinds.{PatternBinds}
use Rattle.law_matches.specs.Matches.{MatchBinds, pair_of, stacked}
use Rattle.law_matches.specs.Matches as m
use Rattle.law_matches.proofs.Sound.{rightly}
use Rattle.law_templates.specs.Repeating.{variables}
use Rattle.law_templates.proofs.Columns.{labels, column_labels, labels_none, AllLong, long_none, RowsFit, rows_fit, zipped, grown-zipped, none_some, tails_same}
use Rattle.law_report.specs.Matching.{IsAtom, plain_atom, written_atom, stored_string, IsPairValue, stored_pair, written_pair, IsVectorValue, stored_vector, written_vector, RefersAs, refers, Begins, IsLast, first_bind, gathered, MatchesPattern, FillsElements, RepeatsPattern, IsRight}
use Rattle.law_report.specs.Matching as r

some-is : {A : Type 0} (x y : A) → Some x ≡ Some y → x ≡ y
some-is x y e = cc

-- One level of a value.

refers-as : (fs : Scope) (t : Tree) (v : Value) → is_alike fs t v ≡ true → RefersAs fs t v
refers-as fs t (value.Syn (leaf s x c)) e = refers e
refers-as fs t _ e = absurd (cc)

is-alike : (fs : Scope) (t : Tree) (v : Value) → RefersAs fs t v → is_alike fs t v ≡ true
is-alike fs t _ (refers e) = e

module _ (cells : List Cell) where
  an-atom : (a : Atom) (v : Value) → atom_of cells v ≡ Some a → IsAtom cells a v
  an-atom a (value.Atom b) e = subst (λ x. IsAtom cells x (value.Atom b)) (some-is b a e) plain_atom
  an-atom a (value.Syn (atom s b)) e = subst (λ x. IsAtom cells x (value.Syn (atom s b))) (some-is b a e) written_atom
  an-atom a (value.Str p) e = by (string_at cells p.0) refl e
    where
      by : (o : Option (List ℕ)) → string_at cells p.0 ≡ o → option_map Str o ≡ Some a → IsAtom cells a (value.Str p)
      by None is k = absurd (cc)
      by (Some text) is k = subst (λ x. IsAtom cells x (value.Str p)) (some-is (Str text) a k) (stored_string is)
  an-atom a _ e = absurd (cc)

  atom-is : (a : Atom) (v : Value) → IsAtom cells a v → atom_of cells v ≡ Some a
  atom-is a _ plain_atom = refl
  atom-is a _ written_atom = refl
  atom-is _ _ (stored_string e) = ap (option_map Str) e

  pairs-same : (p q : Value × Value) → Some p ≡ Some q → (p.0 ≡ q.0) × (p.1 ≡ q.1)
  pairs-same p q h = let e = some-is p q h in (ap (λ (x : Value × Value). x.0) e, ap (λ (x : Value × Value). x.1) e)

  a-pair : (x d v : Value) → pair_of cells v ≡ Some (x, d) → IsPairValue cells x d v
  a-pair x d (value.Pair p) e = stored_pair e
  a-pair x d (value.Syn (pair s a b)) e =
      let k = pairs-same (value.Syn a, value.Syn b) (x, d) e in
      subst (λ y. IsPairValue cells y d (value.Syn (pair s a b))) k.0 (subst (λ y. IsPairValue cells (value.Syn a) y (value.Syn (pair s a b))) k.1 written_pair)
  a-pair x d _ e = absurd (cc)

  pair-is : (x d v : Value) → IsPairValue cells x d v → pair_of cells v ≡ Some (x, d)
  pair-is x d _ (stored_pair e) = e
  pair-is _ _ _ written_pair = refl

  a-vector : (xs : List Value) (v : Value) → vector_of cells v ≡ Some xs → IsVectorValue cells xs v
  a-vector xs (value.Vector p) e = stored_vector e
  a-vector xs (value.Syn (vector s t)) e = subst (λ ys. IsVectorValue cells ys (value.Syn (vector s t))) (some-is _ xs e) written_vector
  a-vector xs _ e = absurd (cc)

  vector-is : (xs : List Value) (v : Value) → IsVectorValue cells xs v → vector_of cells v ≡ Some xs
  vector-is xs _ (stored_vector e) = e
  vector-is _ _ written_vector = refl

  begins : {xs : List Value} {r v : Value} → m.Begins cells xs r v → Begins cells xs r v
  begins m.here = r.here
  begins (m.next {x = x} {d = d} {v = v} e b) = r.next (a-pair x d v e) (begins b)

  begun : {xs : List Value} {r v : Value} → Begins cells xs r v → m.Begins cells xs r v
  begun r.here = m.here
  begun (r.next {x = x} {d = d} {v = v} e b) = m.next (pair-is x d v e) (begun b)

  less : (o : Option ℕ) (r : Value) → m.IsLast cells (one_more o) r → m.IsLast cells o r
  less None r h = h
  less (Some n) r h = tt

  greater : (o : Option ℕ) (r : Value) → m.IsLast cells o r → m.IsLast cells (one_more o) r
  greater None r h = h
  greater (Some n) r h = tt

  a-last : (ps : PlainPatterns) (r : Value) → m.IsLast cells (limit ps) r → IsLast cells ps r
  a-last none r h = tt
  a-last (more p ps) r h = a-last ps r (less (limit ps) r h)
  a-last (dots p ps) r h = λ x d k. let e = sym h ∙ pair-is x d r k in let f : ⊥ = cc in f

  last-is : (ps : PlainPatterns) (r : Value) → IsLast cells ps r → m.IsLast cells (limit ps) r
  last-is none r h = tt
  last-is (more p ps) r h = greater (limit ps) r (last-is ps r h)
  last-is (dots p ps) r h = by (pair_of cells r) refl
    where
      by : (o : Option (Value × Value)) → pair_of cells r ≡ o → pair_of cells r ≡ None
      by None e = e
      by (Some y) e = absurd (h y.0 y.1 (a-pair y.0 y.1 r e))

count-is : (ps : PlainPatterns) → r.count ps ≡ matching.count ps
count-is none = refl
count-is (more p ps) = ap suc (count-is ps)
count-is (dots p ps) = count-is ps

-- Columns.

abbrev with-rows : List Column → List MatchBinds → MatchBinds
with-rows [] rows = []
with-rows (c ∷ cols) rows = (c.label, many (turns (c.binds ++ flat_map first_bind rows))) ∷ with-rows cols (map (drop 1) rows)

zipped-labels : (cols : List Column) (row : MatchBinds) → labels row ≡ column_labels cols → column_labels (zipped cols row) ≡ column_labels cols
zipped-labels [] row h = refl
zipped-labels (c ∷ cols) [] h = absurd (none_some c.label (column_labels cols) h)
zipped-labels (c ∷ cols) (b ∷ row) h = ap (λ ls. c.label ∷ ls) (zipped-labels cols row (tails_same b.0 c.label (labels row) (column_labels cols) h))

zipped-rows : (cols : List Column) (row : MatchBinds) (rows : List MatchBinds) → labels row ≡ column_labels cols → with-rows (zipped cols row) rows ≡ with-rows cols (row ∷ rows)
zipped-rows [] row rows h = refl
zipped-rows (c ∷ cols) [] rows h = absurd (none_some c.label (column_labels cols) h)
zipped-rows (c ∷ cols) (b ∷ row) rows h =
    λ i. (c.label, many (turns (append_assoc c.binds (b.1 ∷ []) (flat_map first_bind rows) i))) ∷ zipped-rows cols row (map (drop 1) rows) (tails_same b.0 c.label (labels row) (column_labels cols) h) i

closed-rows : (cols : List Column) → closed cols ≡ with-rows cols []
closed-rows [] = refl
closed-rows (c ∷ cols) = λ i. (c.label, many (turns (sym (append-nil c.binds) i))) ∷ closed-rows cols i

stacked-rows : (cols : List Column) (rows : List MatchBinds) → RowsFit (column_labels cols) rows → closed (stacked cols rows) ≡ with-rows cols rows
stacked-rows cols [] h = closed-rows cols
stacked-rows cols (row ∷ rows) h =
    ap (λ cs. closed (stacked cs rows)) (grown-zipped [] cols row)
    ∙ stacked-rows (zipped cols row) rows (subst (λ ls. RowsFit ls rows) (sym (zipped-labels cols row h.0)) h.1)
    ∙ zipped-rows cols row rows h.0

no-length : (xs : List PlainBind) → length xs ≡ 0 → xs ≡ []
no-length [] h = refl
no-length (x ∷ xs) h = absurd (cc)

empty-rows : (cols : List Column) (rows : List MatchBinds) → AllLong 0 cols → with-rows cols rows ≡ gathered (column_labels cols) rows
empty-rows [] rows h = refl
empty-rows (c ∷ cols) rows h = λ i. (c.label, many (turns (no-length c.binds h.0 i ++ flat_map first_bind rows))) ∷ empty-rows cols (map (drop 1) rows) h.1 i

gathered-is : (p : PlainPattern) (rows : List MatchBinds) → RowsFit (variables p) rows → closed (stacked (empty_columns p []) rows) ≡ gathered (variables p) rows
gathered-is p rows h =
    stacked-rows (empty_columns p []) rows (subst (λ ls. RowsFit ls rows) (sym (labels_none p)) h)
    ∙ empty-rows (empty_columns p []) rows (long_none p)
    ∙ ap (λ ls. gathered ls rows) (labels_none p)

-- The relation.

module _ (fs : Scope) (cells : List Cell) where
  mutual
    matches : {p : PlainPattern} {v : Value} {bs : MatchBinds} {n : ℕ} → m.Matches fs cells p v bs n → MatchesPattern fs cells p v bs n
    matches m.takes_any = r.anything
    matches m.takes_variable = r.is_bound
    matches (m.takes_literal {t = t} {v = v} e) = r.same_literal (refers-as fs t v e)
    matches (m.takes_atom {a = a} {v = v} e) = r.same_atom (an-atom cells a v e)
    matches (m.takes_list {ps = ps} {r = x} b e f k) = r.fills_list (begins cells b) (a-last cells ps x e) (fills f) (matches k)
    matches (m.takes_vector {v = v} {xs = xs} e f) = r.fills_vector (a-vector cells xs v e) (fills f)

    fills : {ps : PlainPatterns} {xs : List Value} {bs : MatchBinds} {n : ℕ} → m.Fills fs cells ps xs bs n → FillsElements fs cells ps xs bs n
    fills m.no_more = r.no_more
    fills (m.one_more k f) = r.one_more (matches k) (fills f)
    fills (m.all_but {p = p} {ps = ps} {xs = xs} {ys = ys} {rows = rows} {cs = cs} {m = i} {n = n} k long f) =
        subst (λ bs. FillsElements fs cells (dots p ps) (xs ++ ys) (bs ++ cs) (i + n)) (sym (gathered-is p rows (rows_fit k))) (r.repeated (repeats k) (long ∙ sym (count-is ps)) (fills f))

    repeats : {p : PlainPattern} {xs : List Value} {rows : List MatchBinds} {n : ℕ} → m.Repeats fs cells p xs rows n → RepeatsPattern fs cells p xs rows n
    repeats m.no_rows = r.no_rows
    repeats (m.one_row k f) = r.one_row (matches k) (repeats f)

  mutual
    matched-so : {p : PlainPattern} {v : Value} {bs : MatchBinds} {n : ℕ} → MatchesPattern fs cells p v bs n → m.Matches fs cells p v bs n
    matched-so r.anything = m.takes_any
    matched-so r.is_bound = m.takes_variable
    matched-so (r.same_literal {t = t} {v = v} e) = m.takes_literal (is-alike fs t v e)
    matched-so (r.same_atom {a = a} {v = v} e) = m.takes_atom (atom-is cells a v e)
    matched-so (r.fills_list {ps = ps} {r = x} b e f k) = m.takes_list (begun cells b) (last-is cells ps x e) (filled-so f) (matched-so k)
    matched-so (r.fills_vector {v = v} {xs = xs} e f) = m.takes_vector (vector-is cells xs v e) (filled-so f)

    filled-so : {ps : PlainPatterns} {xs : List Value} {bs : MatchBinds} {n : ℕ} → FillsElements fs cells ps xs bs n → m.Fills fs cells ps xs bs n
    filled-so r.no_more = m.no_more
    filled-so (r.one_more k f) = m.one_more (matched-so k) (filled-so f)
    filled-so (r.repeated {p = p} {ps = ps} {xs = xs} {ys = ys} {rows = rows} {cs = cs} {m = i} {n = n} k long f) =
        let old = repeated-so k in
        subst (λ bs. m.Fills fs cells (dots p ps) (xs ++ ys) (bs ++ cs) (i + n)) (gathered-is p rows (rows_fit old)) (m.all_but old (long ∙ count-is ps) (filled-so f))

    repeated-so : {p : PlainPattern} {xs : List Value} {rows : List MatchBinds} {n : ℕ} → RepeatsPattern fs cells p xs rows n → m.Repeats fs cells p xs rows n
    repeated-so r.no_rows = m.no_rows
    repeated-so (r.one_row k f) = m.one_row (matched-so k) (repeated-so f)

  pub is-right : WholeCells cells → (p : PlainPattern) (v : Value) → FitsIn cells v → IsRight fs cells p v (matched fs cells p v (nothing 0))
  is-right w p v h = by (matched fs cells p v (nothing 0)) (rightly fs cells w p v h)
    where
      by : (o : Option PatternBinds) → m.IsRight fs cells p v o → IsRight fs cells p v o
      by (Some f) k = matches k
      by None k = λ bs n x. k bs n (matched-so x)
