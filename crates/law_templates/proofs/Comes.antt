-- The template that repeats a pattern gives back what was matched.
use Rattle.std.proofs.Common.{◌≡◌, ℕ, zero, suc, ◌+◌, ◌-◌, ◌<◌, Bool, true, false, List, [], ◌∷◌, ◌++◌, length, length-append, drop, map, Some, None, Ok, refl, ap, sym, subst, ◌∙◌, append_assoc, arith}
use Rattle.std.specs.Prelude.{Result, if◌then◌else◌}
use Rattle.std.proofs.lemmas.Bool.{lt-ltb, eq-eqb}
use Rattle.std.proofs.lemmas.List.{append-nil}
use Rattle.base_data.specs.Gives.{◌>>=◌}
use Rattle.base_data.specs.Same.{same_name_cases}
use Rattle.base_data.specs.declared.atom.Atom.{Atom}
use Rattle.base_data.specs.declared.atom.Atom.TheVariants as a
use Rattle.base_data.specs.declared.fault.Bare.{Bare}
use Rattle.base_data.specs.declared.name.Label.{Label}
use Rattle.stx_tree.specs.Tree as tree
use Rattle.stx_tree.specs.Tree.{Tree}
use Rattle.stx_frames.specs.Scope.{Scope}
use Rattle.core_shapes.specs.Lists.{is_leaf, is_nil, is_nil_atom, elements}
use Rattle.core_language.specs.Pattern.{PlainPattern, atom, PlainPatterns}
use Rattle.core_language.specs.Template.{PlainTemplate, PlainItems}
use Rattle.core_language.specs.Template as template
use Rattle.eval_value.specs.Bind.{PlainBind}
use Rattle.eval_value.specs.FromDatum.{Keeps, pairs_stored, vector_stored}
use Rattle.eval_value.specs.declared.cell.Cell.{Cell}
use Rattle.eval_value.specs.declared.value.Value.{Value}
use Rattle.eval_value.specs.declared.value.Value.TheVariants as value
use Rattle.eval_value.proofs.Stored.{keeps_refl, keeps_then}
use Rattle.eval_pattern.specs.Values.{atom_of}
use Rattle.eval_pattern.specs.Columns.{empty_columns, closed}
use Rattle.eval_template.specs.Binds.{Binds, Absent, looked_up, through, reached, value_of, count_of}
use Rattle.eval_template.specs.Lengths.{lengths, items_lengths, agree, or_none}
use Rattle.eval_template.specs.Instance.{then_add, counts, is_end, ending, instance, parts, item, turned}
use Rattle.law_matches.specs.Matches.{MatchBinds, Begins, here, next, stacked, Matches, takes_variable, takes_literal, takes_atom, takes_list, takes_vector, Fills, no_more, one_more, all_but, Repeats, no_rows, one_row}
use Rattle.law_templates.specs.Repeating.{variables, all_variables, Differs, Distinct, IsSome, SpellsRepeats, spells_literal, spells_atom, spells_list, spells_vector, SpellsAllRepeats, spells_end, spells_more, IsRepeat, repeats_variable, repeats_form, repeats_list, repeats_vector, AreRepeats, repeats_none, repeats_more, repeats_dots, Alike, itself, same_leaf, same_atom, same_pair, same_vector, AreAlike, all_alike, next_alike, GivesBack}
use Rattle.law_templates.proofs.Sight.{AllAre}
use Rattle.law_templates.proofs.Columns.{labels, column_labels, labels_none, long_none, RowsFit, stacked-labels, stacked_long, rows_fit, AllSee, see_then, RowsSee, rows_seen, Counts, AllCount, count_then, all_count}
use Rattle.law_templates.proofs.Alikes.{alike_kept, all_kept, alike_then, pairs_alike, vector_alike}

-- The lengths at an ellipsis are those of its turns.
all_then : (n : ℕ) (xs ys : List ℕ) → AllAre n xs → AllAre n ys → AllAre n (xs ++ ys)
all_then n [] ys h k = k
all_then n (x ∷ xs) ys h k = (h.0, all_then n xs ys h.1 k)

abbrev AnyIs : List ℕ → Type 0
AnyIs [] = ⊥
AnyIs (n ∷ ns) = Unit {0}

any_left : (xs ys : List ℕ) → AnyIs xs → AnyIs (xs ++ ys)
any_left [] ys h = absurd h
any_left (x ∷ xs) ys h = tt

any_right : (xs ys : List ℕ) → AnyIs ys → AnyIs (xs ++ ys)
any_right [] ys h = h
any_right (x ∷ xs) ys h = tt

agree_all : (n : ℕ) (ns : List ℕ) → AllAre n ns → agree (Some n) ns ≡ Ok (Some n)
agree_all n [] h = refl
agree_all n (m ∷ ms) h = rw (eq-eqb n m (sym h.0)) (agree_all n ms h.1)

agree_any : (n : ℕ) (ns : List ℕ) → AllAre n ns → AnyIs ns → agree None ns ≡ Ok (Some n)
agree_any n [] h k = absurd k
agree_any n (m ∷ ms) h k = ap (λ o. agree (Some o) ms) h.0 ∙ agree_all n ms h.1

-- What has no variables is written as a form.
no_label : IsSome [] → ⊥
no_label h = h

some_of : (xs ys : List Label) → IsSome (xs ++ ys) → (P : Type 0) → (IsSome xs → P) → (IsSome ys → P) → P
some_of [] ys h P f g = g h
some_of (x ∷ xs) ys h P f g = f tt

mutual
  no_variable : {p : PlainPattern} {t : Tree} → SpellsRepeats p t → IsSome (variables p) → ⊥
  no_variable (spells_literal e) h = h
  no_variable spells_atom h = h
  no_variable (spells_list s) h = none_before s h
  no_variable (spells_vector {ps = ps} s) h = all_without s h

  none_before : {ps : PlainPatterns} {p : PlainPattern} {t : Tree} → SpellsAllRepeats ps p t → IsSome (all_variables ps ++ variables p) → ⊥
  none_before (spells_end s) h = no_variable s h
  none_before (spells_more {p = p} {q = q} {ps = ps} s ss) h =
      some_of (variables p) (all_variables ps ++ variables q) (subst IsSome (append_assoc (variables p) (all_variables ps) (variables q)) h) ⊥ (no_variable s) (none_before ss)

  all_without : {ps : PlainPatterns} {p : PlainPattern} {t : Tree} → SpellsAllRepeats ps p t → IsSome (all_variables ps) → ⊥
  all_without (spells_end s) h = h
  all_without (spells_more {p = p} {ps = ps} s ss) h = some_of (variables p) (all_variables ps) h ⊥ (no_variable s) (all_without ss)

module _ (absent : Absent) (binds : Binds) (js : List ℕ) (n : ℕ) where
  here_is : (l : Label) (inside depth : ℕ) → depth ≡ suc (length js + inside) → Counts binds js n l → AllAre n (lengths absent binds js inside (template.variable l depth))
  here_is l inside depth e c =
      let none : length js - (depth - suc inside) ≡ 0 = omega (arith, e) in
      let seen : reached binds l (depth - suc inside) js ≡ through (looked_up binds l) js = ap (λ k. through (looked_up binds l) (drop k js)) none in
      let under : inside < depth = omega (arith, e) in
      rw (lt-ltb inside depth under) (ap (count_of absent) (seen ∙ c.bound) ∙ c.long, tt)

  mutual
    lengths_are : {p : PlainPattern} {t : PlainTemplate} {depth : ℕ} (inside : ℕ) → IsRepeat depth p t → depth ≡ suc (length js + inside) → AllCount binds js n (variables p) → AllAre n (lengths absent binds js inside t)
    lengths_are inside (repeats_variable {depth = depth} {l = l}) e h = here_is l inside depth e h.0
    lengths_are inside (repeats_form s) e h = tt
    lengths_are inside (repeats_list {ps = ps} {p = p} {is = is} {t = t} rs r) e h =
        let s = count_then binds js n (all_variables ps) (variables p) h in
        all_then n (items_lengths absent binds js inside is) (lengths absent binds js inside t) (items_are inside rs e s.0) (lengths_are inside r e s.1)
    lengths_are inside (repeats_vector rs) e h = items_are inside rs e h

    items_are : {ps : PlainPatterns} {is : PlainItems} {depth : ℕ} (inside : ℕ) → AreRepeats depth ps is → depth ≡ suc (length js + inside) → AllCount binds js n (all_variables ps) → AllAre n (items_lengths absent binds js inside is)
    items_are inside repeats_none e h = tt
    items_are inside (repeats_more {p = p} {ps = ps} {t = t} {is = is} r rs) e h =
        let s = count_then binds js n (variables p) (all_variables ps) h in
        all_then n (lengths absent binds js (inside + 0) t) (items_lengths absent binds js inside is) (lengths_are (inside + 0) r (omega (arith, e)) s.0) (items_are inside rs e s.1)
    items_are inside (repeats_dots {p = p} {ps = ps} {t = t} {is = is} some r rs) e h =
        let s = count_then binds js n (variables p) (all_variables ps) h in
        all_then n (lengths absent binds js (inside + 1) t) (items_lengths absent binds js inside is) (lengths_are (inside + 1) r (omega (arith, e)) s.0) (items_are inside rs e s.1)

  one_here : (l : Label) (inside depth : ℕ) → inside < depth → AnyIs (lengths absent binds js inside (template.variable l depth))
  one_here l inside depth e = rw (lt-ltb inside depth e) tt

  mutual
    any_length : {p : PlainPattern} {t : PlainTemplate} {depth : ℕ} (inside : ℕ) → IsRepeat depth p t → inside < depth → IsSome (variables p) → AnyIs (lengths absent binds js inside t)
    any_length inside (repeats_variable {depth = depth} {l = l}) e h = one_here l inside depth e
    any_length inside (repeats_form s) e h = absurd (no_variable s h)
    any_length inside (repeats_list {ps = ps} {p = p} {is = is} {t = t} rs r) e h =
        let xs = items_lengths absent binds js inside is in
        let ys = lengths absent binds js inside t in
        some_of (all_variables ps) (variables p) h (AnyIs (xs ++ ys)) (λ k. any_left xs ys (any_item inside rs e k)) (λ k. any_right xs ys (any_length inside r e k))
    any_length inside (repeats_vector rs) e h = any_item inside rs e h

    any_item : {ps : PlainPatterns} {is : PlainItems} {depth : ℕ} (inside : ℕ) → AreRepeats depth ps is → inside < depth → IsSome (all_variables ps) → AnyIs (items_lengths absent binds js inside is)
    any_item inside repeats_none e h = absurd h
    any_item inside (repeats_more {p = p} {ps = ps} {t = t} {is = is} r rs) e h =
        let xs = lengths absent binds js (inside + 0) t in
        let ys = items_lengths absent binds js inside is in
        some_of (variables p) (all_variables ps) h (AnyIs (xs ++ ys)) (λ k. any_left xs ys (any_length (inside + 0) r (omega (arith, e)) k)) (λ k. any_right xs ys (any_item inside rs e k))
    any_item inside (repeats_dots {p = p} {ps = ps} {t = t} {is = is} some r rs) e h =
        let xs = lengths absent binds js (inside + 1) t in
        let ys = items_lengths absent binds js inside is in
        some_of (variables p) (all_variables ps) h (AnyIs (xs ++ ys)) (λ k. any_left xs ys (any_length (inside + 1) r (omega (arith, e)) k)) (λ k. any_right xs ys (any_item inside rs e k))

-- A form that is written as the pattern is the same data as what the pattern took.
no_nil_leaf : (t : Tree) → is_leaf t ≡ true → is_nil t ≡ true → ⊥
no_nil_leaf (tree.atom s b) h k = cc
no_nil_leaf (tree.leaf s x c) h k = cc
no_nil_leaf (tree.pair s b d) h k = cc
no_nil_leaf (tree.vector s d) h k = cc

nil_atom : (b : Atom) → is_nil_atom b ≡ true → b ≡ a.Nil
nil_atom a.Nil h = refl
nil_atom (a.Bool x) h = absurd (let f : ⊥ = cc in f)
nil_atom (a.Int x) h = absurd (let f : ⊥ = cc in f)
nil_atom (a.Spelt x) h = absurd (let f : ⊥ = cc in f)
nil_atom (a.Char x) h = absurd (let f : ⊥ = cc in f)
nil_atom (a.Str x) h = absurd (let f : ⊥ = cc in f)
nil_atom (a.Bytes x) h = absurd (let f : ⊥ = cc in f)

false_true : false ≡ true → ⊥
false_true h = cc

module _ (fs : Scope) (old new : List Cell) where
  mutual
    spelled : {p : PlainPattern} {t : Tree} {v : Value} {bs : MatchBinds} {n : ℕ} → SpellsRepeats p t → Matches fs old p v bs n → Alike fs old new v (value.Syn t)
    spelled (spells_literal e) (takes_literal f) = same_leaf f
    spelled spells_atom (takes_atom e) = same_atom e refl
    spelled (spells_list s) (takes_list b last f m) = all_spelled s b f m
    spelled (spells_vector s) (takes_vector e f) = same_vector e refl (elements_spelled s f)

    all_spelled : {ps : PlainPatterns} {p : PlainPattern} {t : Tree} {xs : List Value} {r v : Value} {bs cs : MatchBinds} {m n : ℕ}
        → SpellsAllRepeats ps p t → Begins old xs r v → Fills fs old ps xs bs m → Matches fs old p r cs n → Alike fs old new v (value.Syn t)
    all_spelled (spells_end s) here no_more m = spelled s m
    all_spelled (spells_end s) (next e b) f m = elim f [ ]
    all_spelled (spells_more s ss) here f m = elim f [ ]
    all_spelled (spells_more s ss) (next e b) (one_more r f) m = same_pair e refl (spelled s r) (all_spelled ss b f m)

    elements_spelled : {ps : PlainPatterns} {t : Tree} {xs : List Value} {bs : MatchBinds} {m : ℕ} → SpellsAllRepeats ps (atom a.Nil) t → Fills fs old ps xs bs m → AreAlike fs old new xs (map value.Syn (elements t))
    elements_spelled (spells_end spells_atom) no_more = all_alike
    elements_spelled (spells_more s ss) (one_more r f) = next_alike (spelled s r) (elements_spelled ss f)

-- what is written as the empty list
mutual
  nil_spelled : {fs : Scope} {cells : List Cell} {p : PlainPattern} {t : Tree} {v : Value} {bs : MatchBinds} {n : ℕ} → SpellsRepeats p t → Matches fs cells p v bs n → is_nil t ≡ true → atom_of cells v ≡ Some a.Nil
  nil_spelled (spells_literal {t = t} e) m h = absurd (no_nil_leaf t e h)
  nil_spelled (spells_atom {a = b}) (takes_atom e) h = e ∙ ap Some (nil_atom b h)
  nil_spelled (spells_list s) (takes_list b last f m) h = nil_end s b f m h
  nil_spelled (spells_vector s) m h = absurd (false_true h)

  nil_end : {fs : Scope} {cells : List Cell} {ps : PlainPatterns} {p : PlainPattern} {t : Tree} {xs : List Value} {r v : Value} {bs cs : MatchBinds} {m n : ℕ}
      → SpellsAllRepeats ps p t → Begins cells xs r v → Fills fs cells ps xs bs m → Matches fs cells p r cs n → is_nil t ≡ true → atom_of cells v ≡ Some a.Nil
  nil_end (spells_end s) here no_more m h = nil_spelled s m h
  nil_end (spells_end s) (next e b) f m h = elim f [ ]
  nil_end (spells_more s ss) b f m h = absurd (false_true h)

nil_is : {fs : Scope} {cells : List Cell} {p : PlainPattern} {t : PlainTemplate} {v : Value} {bs : MatchBinds} {depth n : ℕ} → IsRepeat depth p t → Matches fs cells p v bs n → is_end t ≡ true → atom_of cells v ≡ Some a.Nil
nil_is repeats_variable m h = absurd (false_true h)
nil_is (repeats_form s) m h = nil_spelled s m h
nil_is (repeats_list rs r) m h = absurd (false_true h)
nil_is (repeats_vector rs) m h = absurd (false_true h)

-- Values are made behind others, and they are the same data.
record PartsBack (fs : Scope) (old : List Cell) (xs done : List Value) (cells : List Cell) (given : Result (List Value × List Cell) Bare) : Type 0 where
  values : List Value
  later : List Cell
  is : given ≡ Ok (done ++ values, later)
  kept : Keeps cells later
  alike : AreAlike fs old later xs values

module _ (fs : Scope) (old : List Cell) (absent : Absent) (binds : Binds) where
  ended : {p : PlainPattern} {t : PlainTemplate} {v : Value} {bs : MatchBinds} {depth n : ℕ} (js : List ℕ) (cells : List Cell) → IsRepeat depth p t → Matches fs old p v bs n
      → GivesBack fs old v cells (instance absent binds t js cells) → GivesBack fs old v cells (ending t (instance absent binds t js) cells)
  ended {t = t} {v = v} js cells r m g = go (is_end t) refl
    where
      go : (b : Bool) → is_end t ≡ b → GivesBack fs old v cells (if b then Ok (value.Atom a.Nil, cells) else instance absent binds t js cells)
      go false e = g
      go true e = record { made = value.Atom a.Nil; later = cells; is = refl; kept = keeps_refl cells; alike = same_atom (nil_is r m e) refl }

  abbrev go_on : PlainTemplate → List ℕ → List Value → List Cell → Result (List Value × List Cell) Bare
  go_on t = item (instance absent binds t) (counts absent binds t) zero

  -- at an ellipsis there are as many turns as rows
  agreed : {p : PlainPattern} {t : PlainTemplate} (js : List ℕ) (rows : List MatchBinds) → IsRepeat (suc (length js)) p t → IsSome (variables p) → RowsFit (variables p) rows
      → AllSee binds js (closed (stacked (empty_columns p []) rows)) → agree None (counts absent binds t 0 js) ≡ Ok (Some (length rows))
  agreed {p = p} {t = t} js rows r some fit s =
      let cols = empty_columns p [] in
      let fits = subst (λ ls. RowsFit ls rows) (sym (labels_none p)) fit in
      let count = all_count binds js (0 + length rows) (stacked cols rows) (stacked_long 0 cols rows (long_none p)) s in
      let long = subst (λ m. AllCount binds js m (column_labels (stacked cols rows))) (let e : 0 + length rows ≡ length rows = omega arith in e) count in
      let all = subst (λ ls. AllCount binds js (length rows) ls) (stacked-labels cols rows fits ∙ labels_none p) long in
      agree_any (length rows) (lengths absent binds js 0 t)
      (lengths_are absent binds js (length rows) 0 r (let e : suc (length js) ≡ suc (length js + 0) = omega arith in e) all)
      (any_length absent binds js (length rows) 0 r (omega arith) some)

  mutual
    pub comes : {p : PlainPattern} {t : PlainTemplate} {v : Value} {bs : MatchBinds} {n : ℕ} (js : List ℕ) (cells : List Cell) → IsRepeat (length js) p t → Matches fs old p v bs n → AllSee binds js bs
        → GivesBack fs old v cells (instance absent binds t js cells)
    comes js cells (repeats_form {t = t} w) m s = record { made = value.Syn t; later = cells; is = refl; kept = keeps_refl cells; alike = spelled fs old cells w m }
    comes js cells repeats_variable (takes_variable {l = l} {v = v}) s =
        let none : length js - length js ≡ 0 = omega arith in
        record {
          made = v;
          later = cells;
          is = ap (λ o. Ok (value_of absent o, cells)) (ap (λ k. through (looked_up binds l) (drop k js)) none ∙ s.0);
          kept = keeps_refl cells;
          alike = itself;
        }
    comes js cells (repeats_list {t = t} rs r) (takes_list {bs = bs} {cs = cs} b last f m) s =
        let seen = see_then binds js bs cs s in
        let xs = filled js [] cells rs f seen.0 in
        let w = ended js xs.later r m (comes js xs.later r m seen.1) in
        let p = pairs_alike fs old w.later xs.values w.made b (all_kept xs.later w.later w.kept fs old xs.alike) w.alike in
        let q = pairs_stored xs.values (w.made, w.later) in
        record {
          made = q.0;
          later = q.1;
          is = ap (λ g. then_add g (λ ys cells. then_add (ending t (instance absent binds t js) cells) (λ v cells. Ok (pairs_stored ys (v, cells))))) xs.is
              ∙ ap (λ g. then_add g (λ v cells. Ok (pairs_stored xs.values (v, cells)))) w.is;
          kept = keeps_then cells w.later q.1 (keeps_then cells xs.later w.later xs.kept w.kept) p.kept;
          alike = p.alike;
        }
    comes js cells (repeats_vector rs) (takes_vector {v = v} {xs = ys} e f) s =
        let xs = filled js [] cells rs f s in
        let p = vector_alike fs old xs.later v ys xs.values e xs.alike in
        let q = vector_stored (xs.values, xs.later) in
        record {
          made = q.0;
          later = q.1;
          is = ap (λ g. then_add g (λ ys cells. Ok (vector_stored (ys, cells)))) xs.is;
          kept = keeps_then cells xs.later q.1 xs.kept p.kept;
          alike = p.alike;
        }

    filled : {ps : PlainPatterns} {is : PlainItems} {xs : List Value} {bs : MatchBinds} {n : ℕ} (js : List ℕ) (done : List Value) (cells : List Cell) → AreRepeats (length js) ps is → Fills fs old ps xs bs n
        → AllSee binds js bs → PartsBack fs old xs done cells (parts absent binds is js done cells)
    filled js done cells repeats_none no_more s = record { values = []; later = cells; is = ap (λ ys. Ok (ys, cells)) (sym (append-nil done)); kept = keeps_refl cells; alike = all_alike }
    filled js done cells (repeats_more {is = is} r rs) (one_more {bs = bs} {cs = cs} m f) s =
        let seen = see_then binds js bs cs s in
        let x = comes js cells r m seen.0 in
        let xs = filled js (done ++ x.made ∷ []) x.later rs f seen.1 in
        record {
          values = x.made ∷ xs.values;
          later = xs.later;
          is = ap (λ g. then_add (then_add g (λ v cells. Ok (done ++ v ∷ [], cells))) (parts absent binds is js)) x.is ∙ xs.is
              ∙ ap (λ ys. Ok (ys, xs.later)) (append_assoc done (x.made ∷ []) xs.values);
          kept = keeps_then cells x.later xs.later x.kept xs.kept;
          alike = next_alike (alike_kept x.later xs.later xs.kept fs old x.alike) xs.alike;
        }
    filled js done cells (repeats_dots {p = p} {t = t} {is = is} some r rs) (all_but {rows = rows} {cs = cs} m long f) s =
        let cols = empty_columns p [] in
        let seen = see_then binds js (closed (stacked cols rows)) cs s in
        let fits = subst (λ ls. RowsFit ls rows) (sym (labels_none p)) (rows_fit m) in
        let turns = rows_seen binds js 0 cols rows fits (long_none p) seen.0 in
        let xs = each js 0 done cells r m turns in
        let ys = filled js (done ++ xs.values) xs.later rs f seen.1 in
        record {
          values = xs.values ++ ys.values;
          later = ys.later;
          is = ap (λ g. then_add (g >>= λ n. turned (go_on t) (or_none n) 0 js done cells) (parts absent binds is js)) (agreed js rows r some (rows_fit m) seen.0)
              ∙ ap (λ g. then_add g (parts absent binds is js)) xs.is ∙ ys.is ∙ ap (λ zs. Ok (zs, ys.later)) (append_assoc done xs.values ys.values);
          kept = keeps_then cells xs.later ys.later xs.kept ys.kept;
          alike = alike_then (all_kept xs.later ys.later ys.kept fs old xs.alike) ys.alike;
        }

    each : {p : PlainPattern} {t : PlainTemplate} {xs : List Value} {rows : List MatchBinds} {n : ℕ} (js : List ℕ) (i : ℕ) (done : List Value) (cells : List Cell) → IsRepeat (suc (length js)) p t
        → Repeats fs old p xs rows n → RowsSee binds js i rows → PartsBack fs old xs done cells (turned (go_on t) (length rows) i js done cells)
    each js i done cells r no_rows s = record { values = []; later = cells; is = ap (λ ys. Ok (ys, cells)) (sym (append-nil done)); kept = keeps_refl cells; alike = all_alike }
    each {p = p} {t = t} js i done cells r (one_row {x = y} {rows = rows} m ms) s =
        let up : suc (length js) ≡ length (js ++ i ∷ []) = omega (arith, length-append js (i ∷ [])) in
        let x = comes (js ++ i ∷ []) cells (subst (λ d. IsRepeat d p t) up r) m s.0 in
        let xs = each js (i + 1) (done ++ x.made ∷ []) x.later r ms s.1 in
        record {
          values = x.made ∷ xs.values;
          later = xs.later;
          is = ap (λ g. then_add (then_add g (λ v cells. Ok (done ++ v ∷ [], cells))) (turned (go_on t) (length rows) (i + 1) js)) x.is ∙ xs.is
              ∙ ap (λ ys. Ok (ys, xs.later)) (append_assoc done (x.made ∷ []) xs.values);
          kept = keeps_then cells x.later xs.later x.kept xs.kept;
          alike = next_alike (alike_kept x.later xs.later xs.kept fs old x.alike) xs.alike;
        }

-- At the start each variable is found, where none comes again.
apart : (b : Label × PlainBind) (bs xs : MatchBinds) → Differs b.0 (labels xs) → AllSee bs [] xs → AllSee (b ∷ bs) [] xs
apart b bs [] h s = tt
apart b bs (x ∷ xs) h s = (rw h.0 s.0, apart b bs xs h.1 s.1)

pub own : (bs : MatchBinds) → Distinct (labels bs) → AllSee bs [] bs
own [] h = tt
own (b ∷ bs) h = (rw ((same_name_cases b.0.0 b.0.0).1 refl) refl, apart b bs bs h.0 (own bs h.1))
