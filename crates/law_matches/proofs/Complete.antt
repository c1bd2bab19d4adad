-- What the relation has, the definition gives.
use Rattle.std.proofs.Common.{◌≡◌, ℕ, suc, ◌+◌, ◌-◌, ◌≤◌, Bool, true, false, List, [], ◌∷◌, ◌++◌, length, length-append, Option, Some, None, refl, ap, sym, ◌∙◌, append_assoc, add_assoc, arith}
use Rattle.std.proofs.lemmas.Bool.{le-leb}
use Rattle.std.proofs.Math.Seq.{take-append_seam, drop-append_seam}
use Rattle.base_data.specs.declared.atom.Atom.{Atom}
use Rattle.stx_frames.specs.Scope.{Scope}
use Rattle.core_language.specs.Pattern.{PlainPattern, PlainPatterns}
use Rattle.eval_value.specs.Bind.{one}
use Rattle.eval_value.specs.Cells.{FitsIn, WholeCells}
use Rattle.eval_value.specs.declared.cell.Cell.{Cell}
use Rattle.eval_value.specs.declared.value.Value.{Value}
use Rattle.eval_pattern.specs.Values.{atom_of, is_atom, is_alike}
use Rattle.eval_pattern.specs.Columns.{empty_columns, grown, closed}
use Rattle.eval_pattern.specs.Matched.{matched, all_matched, repeated, nothing, kept, count, limit, one_more as more_limit}
use Rattle.eval_pattern.specs.declared.columns.Column.{Column}
use Rattle.eval_pattern.specs.declared.columns.PatternBinds.{PatternBinds}
use Rattle.law_matches.specs.Matches.{MatchBinds, stacked, Matches, takes_any, takes_variable, takes_literal, takes_atom, takes_list, takes_vector, Fills, no_more, one_more, all_but, Repeats, no_rows as no_row, one_row}
use Rattle.law_matches.proofs.Fronts.{Fit, IsLong, taken_by, begun_fit, elements_fit, fit_then}
use Rattle.law_matches.proofs.Atoms.{same_atom_cases}

abbrev pub with : PatternBinds → MatchBinds → ℕ → PatternBinds
with s bs n = record { binds = s.binds ++ bs; taken = s.taken + n }

append_none : {A : Type 0} (xs : List A) → xs ++ [] ≡ xs
append_none [] = refl
append_none (x ∷ xs) = ap (λ ys. x ∷ ys) (append_none xs)

pub with_none : (s : PatternBinds) → with s [] 0 ≡ s
with_none s = λ i. record { binds = append_none s.binds i; taken = (let e : s.taken + 0 ≡ s.taken = omega arith in e) i }

pub with_with : (s : PatternBinds) (bs cs : MatchBinds) (m n : ℕ) → with (with s bs m) cs n ≡ with s (bs ++ cs) (m + n)
with_with s bs cs m n = λ i. record { binds = append_assoc s.binds bs cs i; taken = add_assoc s.taken m n i }

kept_true : (b : Bool) (s : PatternBinds) → b ≡ true → kept b s ≡ Some s
kept_true true s e = refl
kept_true false s e = absurd (cc)

pub is_that : (a : Atom) (o : Option Atom) → o ≡ Some a → is_atom a o ≡ true
is_that a o e = ap (is_atom a) e ∙ (same_atom_cases a a).1 refl

-- patterns are filled by as many elements as they say
filled_long : {fs : Scope} {cells : List Cell} {ps : PlainPatterns} {xs : List Value} {bs : MatchBinds} {n : ℕ} → Fills fs cells ps xs bs n → IsLong (limit ps) xs
filled_long no_more = refl
filled_long (one_more {ps = ps} {x = x} {xs = xs} m f) = go (limit ps) (filled_long f)
  where
    go : (o : Option ℕ) → IsLong o xs → IsLong (more_limit o) (x ∷ xs)
    go None h = tt
    go (Some n) h = ap suc h
filled_long (all_but r h f) = tt

module _ (fs : Scope) (cells : List Cell) (w : WholeCells cells) where
  mutual
    pub matched_is : {p : PlainPattern} {v : Value} {bs : MatchBinds} {n : ℕ} (s : PatternBinds) → FitsIn cells v → Matches fs cells p v bs n → matched fs cells p v s ≡ Some (with s bs n)
    matched_is s h takes_any = ap Some (sym (with_none s))
    matched_is s h (takes_variable {l = l} {v = v}) = ap (λ k. Some (record { binds = s.binds ++ (l, one v) ∷ []; taken = k })) (let e : s.taken ≡ s.taken + 0 = omega arith in e)
    matched_is s h (takes_literal {t = t} {v = v} e) = kept_true (is_alike fs t v) s e ∙ ap Some (sym (with_none s))
    matched_is s h (takes_atom {a = a} {v = v} e) = kept_true (is_atom a (atom_of cells v)) s (is_that a (atom_of cells v) e) ∙ ap Some (sym (with_none s))
    matched_is s h (takes_list {ps = ps} {t = t} {v = v} {r = r} {xs = xs} {bs = bs} {cs = cs} {m = m} {n = n} b e f last) =
        let fit = begun_fit cells w h b in
        let taken = taken_by cells w (limit ps) h b e (filled_long f) in
        rw (taken, filled_is s fit.0 f, matched_is (with s bs m) fit.1 last, with_with s bs cs m n) refl
    matched_is s h (takes_vector {v = v} {xs = xs} e f) = rw e (filled_is s (elements_fit cells w v xs e) f)

    pub filled_is : {ps : PlainPatterns} {xs : List Value} {bs : MatchBinds} {n : ℕ} (s : PatternBinds) → Fit cells xs → Fills fs cells ps xs bs n → all_matched fs cells ps xs s ≡ Some (with s bs n)
    filled_is s h no_more = ap Some (sym (with_none s))
    filled_is s h (one_more {bs = bs} {cs = cs} {m = m} {n = n} r f) = rw (matched_is s h.0 r, filled_is (with s bs m) h.1 f, with_with s bs cs m n) refl
    filled_is s h (all_but {p = p} {ps = ps} {xs = xs} {ys = ys} {rows = rows} {cs = cs} {m = m} {n = n} r long f) =
        let k : length (xs ++ ys) - count ps ≡ length xs = omega (arith, length-append xs ys, long) in
        let le : count ps ≤ length (xs ++ ys) = omega (arith, length-append xs ys, long) in
        let fit = fit_then cells xs ys h in
        rw (
          le-leb (count ps) (length (xs ++ ys)) le,
          k,
          take-append_seam xs ys,
          drop-append_seam xs ys,
          repeated_is (empty_columns p []) s.taken fit.0 r,
          filled_is (with s (closed (stacked (empty_columns p []) rows)) m) fit.1 f,
          with_with s (closed (stacked (empty_columns p []) rows)) cs m n,
        ) refl

    pub repeated_is : {p : PlainPattern} {xs : List Value} {rows : List MatchBinds} {n : ℕ} (cols : List Column) (k : ℕ) → Fit cells xs → Repeats fs cells p xs rows n
        → repeated (matched fs cells p) (record { columns = cols; taken = k }) xs ≡ Some (record { columns = stacked cols rows; taken = k + n })
    repeated_is cols k h no_row = ap (λ j. Some (record { columns = cols; taken = j })) (let e : k ≡ k + 0 = omega arith in e)
    repeated_is cols k h (one_row {row = row} {rows = rows} {m = m} {n = n} r rs) =
        rw (matched_is (nothing (k + 1)) h.0 r, repeated_is (grown [] cols row) (k + 1 + m) h.1 rs)
        (ap (λ j. Some (record { columns = stacked (grown [] cols row) rows; taken = j })) (let e : k + 1 + m + n ≡ k + suc (m + n) = omega arith in e))

  -- a pattern has at most one answer at a value
  pub single : {p : PlainPattern} {v : Value} {bs cs : MatchBinds} {m n : ℕ} → FitsIn cells v → Matches fs cells p v bs m → Matches fs cells p v cs n → (bs ≡ cs) × (m ≡ n)
  single {bs = bs} {cs = cs} {m = m} {n = n} h x y =
      let e = sym (matched_is (nothing 0) h x) ∙ matched_is (nothing 0) h y in
      let f : with (nothing 0) bs m ≡ with (nothing 0) cs n = cc in
      (ap (λ (t : PatternBinds). t.binds) f, (let g : 0 + m ≡ 0 + n = ap (λ (t : PatternBinds). t.taken) f in omega arith))
