-- What the definition gives, the relation has.
use Rattle.std.proofs.Common.{◌≡◌, ℕ, suc, ◌+◌, ◌-◌, Bool, true, false, List, [], ◌∷◌, ◌++◌, length, length-drop, take, drop, Option, Some, None, refl, ap, sym, subst, ◌∙◌, arith}
use Rattle.std.specs.Prelude.{nat_le, if◌then◌else◌}
use Rattle.std.proofs.lemmas.Bool.{leb-true}
use Rattle.std.proofs.lemmas.List.{take-append-drop}
use Rattle.base_data.specs.declared.atom.Atom.{Atom}
use Rattle.stx_frames.specs.Scope.{Scope}
use Rattle.core_language.specs.Pattern.{PlainPattern, any, variable, literal, list, PlainPatterns, none, more, dots}
use Rattle.core_language.specs.Pattern as pattern
use Rattle.eval_value.specs.Bind.{one}
use Rattle.eval_value.specs.Cells.{FitsIn, WholeCells}
use Rattle.eval_value.specs.declared.cell.Cell.{Cell}
use Rattle.eval_value.specs.declared.value.Value.{Value}
use Rattle.eval_pattern.specs.Values.{atom_of, is_atom, is_alike, vector_of}
use Rattle.eval_pattern.specs.Front.{front}
use Rattle.eval_pattern.specs.Columns.{empty_columns, grown, closed}
use Rattle.eval_pattern.specs.Matched.{matched, all_matched, repeated, no_rows, with_rows, nothing, and_then, on_elements, count, limit}
use Rattle.eval_pattern.specs.declared.columns.Column.{Column}
use Rattle.eval_pattern.specs.declared.columns.Rows.{Rows}
use Rattle.eval_pattern.specs.declared.columns.PatternBinds.{PatternBinds}
use Rattle.law_matches.specs.Matches.{MatchBinds, pair_of, Begins, IsLast, stacked, Matches, takes_any, takes_variable, takes_literal, takes_atom, takes_list, takes_vector, Fills, no_more, one_more, all_but, Repeats, no_rows as no_row, one_row, IsRight}
use Rattle.law_matches.proofs.Fronts.{Took, Fit, front_took, begun_fit, elements_fit, fit_then}
use Rattle.law_matches.proofs.Complete.{with, with_none, with_with, matched_is}
use Rattle.law_matches.proofs.Atoms.{same_atom_cases}

some_inj : {A : Type 0} (x y : A) → Some x ≡ Some y → x ≡ y
some_inj x y e = cc

and_then_some : {A B : Type 0} (x : Option A) (k : A → Option B) (y : B) → and_then x k ≡ Some y → (z : A) × ((x ≡ Some z) × (k z ≡ Some y))
and_then_some None k y e = absurd (let f : ⊥ = cc in f)
and_then_some (Some x) k y e = (x, (refl, e))

on_elements_some : (x : Option (List Value)) (k : List Value → Option PatternBinds) (y : PatternBinds) → on_elements x k ≡ Some y → (z : List Value) × ((x ≡ Some z) × (k z ≡ Some y))
on_elements_some None k y e = absurd (let f : ⊥ = cc in f)
on_elements_some (Some x) k y e = (x, (refl, e))

if_some : {A : Type 0} (b : Bool) (x : Option A) (y : A) → (if b then x else None) ≡ Some y → (b ≡ true) × (x ≡ Some y)
if_some true x y e = (refl, e)
if_some false x y e = absurd (let f : ⊥ = cc in f)

is_same : (a : Atom) (o : Option Atom) → is_atom a o ≡ true → o ≡ Some a
is_same a None e = absurd (let f : ⊥ = cc in f)
is_same a (Some b) e = ap Some (sym ((same_atom_cases a b).0 e))

-- with an ellipsis all elements are taken
last_taken : (cells : List Cell) (o : Option ℕ) (v : Value) → Took cells o (pair_of cells) [] v (front cells o v) → IsLast cells o (front cells o v).rest
last_taken cells None v t = t.ends refl
last_taken cells (Some n) v t = tt

abbrev Sounds : Scope → List Cell → PlainPattern → Value → PatternBinds → PatternBinds → Type 0
Sounds fs cells p v s t = (bs : MatchBinds) × ((n : ℕ) × (Matches fs cells p v bs n × (t ≡ with s bs n)))

abbrev AllSound : Scope → List Cell → PlainPatterns → List Value → PatternBinds → PatternBinds → Type 0
AllSound fs cells ps xs s t = (bs : MatchBinds) × ((n : ℕ) × (Fills fs cells ps xs bs n × (t ≡ with s bs n)))

module _ (fs : Scope) (cells : List Cell) where
  repeated_sound : (p : PlainPattern) → ((v : Value) (s t : PatternBinds) → FitsIn cells v → matched fs cells p v s ≡ Some t → Sounds fs cells p v s t)
      → (cols : List Column) (k : ℕ) (xs : List Value) (r : Rows) → Fit cells xs → repeated (matched fs cells p) (record { columns = cols; taken = k }) xs ≡ Some r
      → (rows : List MatchBinds) × ((n : ℕ) × (Repeats fs cells p xs rows n × (r ≡ record { columns = stacked cols rows; taken = k + n })))
  repeated_sound p ih cols k [] r h e =
      ([], (0, (no_row, sym (some_inj _ _ e) ∙ ap (λ j. record { columns = cols; taken = j }) (let f : k ≡ k + 0 = omega arith in f))))
  repeated_sound p ih cols k (x ∷ xs) r h e =
      let a = and_then_some (matched fs cells p x (nothing (k + 1))) (λ row. repeated (matched fs cells p) (record { columns = grown [] cols row.binds; taken = row.taken }) xs) r e in
      let m = ih x (nothing (k + 1)) a.0 h.0 a.1.0 in
      let rest = repeated_sound p ih (grown [] cols a.0.binds) a.0.taken xs r h.1 a.1.1 in (
        m.0 ∷ rest.0,
        (
          suc (m.1.0 + rest.1.0),
          (
            one_row m.1.1.0 rest.1.1.0,
            rest.1.1.1 ∙ ap (λ (t : PatternBinds). record { columns = stacked (grown [] cols t.binds) rest.0; taken = t.taken + rest.1.0 }) m.1.1.1
                ∙ ap (λ j. record { columns = stacked (grown [] cols m.0) rest.0; taken = j }) (let f : k + 1 + m.1.0 + rest.1.0 ≡ k + suc (m.1.0 + rest.1.0) = omega arith in f),
          ),
        ),
      )

  module _ (w : WholeCells cells) where
    mutual
      pub sound : (p : PlainPattern) (v : Value) (s t : PatternBinds) → FitsIn cells v → matched fs cells p v s ≡ Some t → Sounds fs cells p v s t
      sound any v s t h e = ([], (0, (takes_any, sym (some_inj s t e) ∙ sym (with_none s))))
      sound (variable l) v s t h e = ((l, one v) ∷ [], (0, (takes_variable, sym (some_inj _ t e) ∙ ap (λ k. record { binds = s.binds ++ (l, one v) ∷ []; taken = k }) (let f : s.taken ≡ s.taken + 0 = omega arith in f))))
      sound (literal u) v s t h e = let a = if_some (is_alike fs u v) (Some s) t e in ([], (0, (takes_literal a.0, sym (some_inj s t a.1) ∙ sym (with_none s))))
      sound (pattern.atom b) v s t h e =
          let a = if_some (is_atom b (atom_of cells v)) (Some s) t e in
          ([], (0, (takes_atom (is_same b (atom_of cells v) a.0), sym (some_inj s t a.1) ∙ sym (with_none s))))
      sound (list ps q) v s t h e =
          let f = front cells (limit ps) v in
          let taken = front_took cells (limit ps) w v h in
          let begun = subst (λ xs. Begins cells xs f.rest v) (sym taken.is) taken.begins in
          let fit = begun_fit cells w h begun in
          let a = and_then_some (all_matched fs cells ps f.elements s) (matched fs cells q f.rest) t e in
          let b = all_sound ps f.elements s a.0 fit.0 a.1.0 in
          let d = sound q f.rest a.0 t fit.1 a.1.1 in
          (b.0 ++ d.0, (b.1.0 + d.1.0, (takes_list begun (last_taken cells (limit ps) v taken) b.1.1.0 d.1.1.0, d.1.1.1 ∙ ap (λ u. with u d.0 d.1.0) b.1.1.1 ∙ with_with s b.0 d.0 b.1.0 d.1.0)))
      sound (pattern.vector ps) v s t h e =
          let a = on_elements_some (vector_of cells v) (λ xs. all_matched fs cells ps xs s) t e in
          let b = all_sound ps a.0 s t (elements_fit cells w v a.0 a.1.0) a.1.1 in
          (b.0, (b.1.0, (takes_vector a.1.0 b.1.1.0, b.1.1.1)))

      pub all_sound : (ps : PlainPatterns) (xs : List Value) (s t : PatternBinds) → Fit cells xs → all_matched fs cells ps xs s ≡ Some t → AllSound fs cells ps xs s t
      all_sound none [] s t h e = ([], (0, (no_more, sym (some_inj s t e) ∙ sym (with_none s))))
      all_sound none (x ∷ xs) s t h e = absurd (let f : ⊥ = cc in f)
      all_sound (more p ps) [] s t h e = absurd (let f : ⊥ = cc in f)
      all_sound (more p ps) (x ∷ xs) s t h e =
          let a = and_then_some (matched fs cells p x s) (all_matched fs cells ps xs) t e in
          let b = sound p x s a.0 h.0 a.1.0 in
          let d = all_sound ps xs a.0 t h.1 a.1.1 in
          (b.0 ++ d.0, (b.1.0 + d.1.0, (one_more b.1.1.0 d.1.1.0, d.1.1.1 ∙ ap (λ u. with u d.0 d.1.0) b.1.1.1 ∙ with_with s b.0 d.0 b.1.0 d.1.0)))
      all_sound (dots p ps) xs s t h e =
          let n = length xs - count ps in
          let fit = fit_then cells (take n xs) (drop n xs) (subst (Fit cells) (sym (take-append-drop n xs)) h) in
          let a = if_some (nat_le (count ps) (length xs)) (and_then (repeated (matched fs cells p) (no_rows p s.taken) (take n xs)) (λ r. all_matched fs cells ps (drop n xs) (with_rows s r))) t e in
          let b = and_then_some (repeated (matched fs cells p) (no_rows p s.taken) (take n xs)) (λ r. all_matched fs cells ps (drop n xs) (with_rows s r)) t a.1 in
          let c = repeated_sound p (sound p) (empty_columns p []) s.taken (take n xs) b.0 fit.0 b.1.0 in
          let d = all_sound ps (drop n xs) (with_rows s b.0) t fit.1 b.1.1 in
          let cols = closed (stacked (empty_columns p []) c.0) in
          let long : length (drop n xs) ≡ count ps = omega (arith, length-drop n xs, leb-true (count ps) (length xs) a.0) in (
            cols ++ d.0,
            (
              c.1.0 + d.1.0,
              (
                subst (λ ys. Fills fs cells (dots p ps) ys (cols ++ d.0) (c.1.0 + d.1.0)) (take-append-drop n xs) (all_but c.1.1.0 long d.1.1.0),
                d.1.1.1 ∙ ap (λ r. with (with_rows s r) d.0 d.1.0) c.1.1.1 ∙ with_with s cols d.0 c.1.0 d.1.0,
              ),
            ),
          )

    start_with : (bs : MatchBinds) (n : ℕ) → with (nothing 0) bs n ≡ record { binds = bs; taken = n }
    start_with bs n = ap (λ k. record { binds = bs; taken = k }) (let f : 0 + n ≡ n = omega arith in f)

    pub rightly : (p : PlainPattern) (v : Value) → FitsIn cells v → IsRight fs cells p v (matched fs cells p v (nothing 0))
    rightly p v h = go (matched fs cells p v (nothing 0)) refl
      where
        go : (o : Option PatternBinds) → matched fs cells p v (nothing 0) ≡ o → IsRight fs cells p v o
        go None e = λ bs n m. let f = sym e ∙ matched_is fs cells w (nothing 0) h m in let g : ⊥ = cc in g
        go (Some t) e = let a = sound p v (nothing 0) t h e in subst (λ (u : PatternBinds). Matches fs cells p v u.binds u.taken) (sym (start_with a.0 a.1.0) ∙ sym a.1.1.1) a.1.1.0
