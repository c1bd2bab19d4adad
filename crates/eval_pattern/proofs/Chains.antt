-- Patterns one after another.
use Rattle.std.proofs.Common.{◌≡◌, suc, ◌<◌, ◌≤◌, List, [], ◌∷◌, ◌++◌, ◌-◌, length, length-take, take, drop, Option, Some, None, refl, ap, sym, ◌∙◌, arith}
use Rattle.std.proofs.lemmas.Bool.{lt-leb, le-leb}
use Rattle.std.proofs.lemmas.List.{take-append-drop}
use Rattle.stx_frames.specs.Scope.{Scope}
use Rattle.core_language.specs.Pattern.{PlainPattern, PlainPatterns, none, dots, patterns, patterns_on}
use Rattle.eval_value.specs.declared.value.Value.{Value}
use Rattle.eval_value.specs.declared.cell.Cell.{Cell}
use Rattle.eval_pattern.specs.declared.columns.Column.{Column}
use Rattle.eval_pattern.specs.declared.columns.Rows.{Rows}
use Rattle.eval_pattern.specs.declared.columns.PatternBinds.{PatternBinds}
use Rattle.eval_pattern.specs.Columns.{empty_columns, all_empty_columns}
use Rattle.eval_pattern.specs.Matched.{matched, all_matched, repeated, no_rows, with_rows, and_then, count, limit, one_more}

pub empty_columns_on : (ps : List PlainPattern) (q : PlainPatterns) (cols : List Column) → all_empty_columns (patterns_on ps q) cols ≡ all_empty_columns q (all_empty_columns (patterns ps) cols)
empty_columns_on [] q cols = refl
empty_columns_on (p ∷ ps) q cols = empty_columns_on ps q (empty_columns p cols)

pub limit_none : (ps : List PlainPattern) → limit (patterns_on ps none) ≡ Some (length ps)
limit_none [] = refl
limit_none (p ∷ ps) = ap one_more (limit_none ps)

pub limit_dots : (ps : List PlainPattern) (p : PlainPattern) (q : PlainPatterns) → limit (patterns_on ps (dots p q)) ≡ None
limit_dots [] p q = refl
limit_dots (r ∷ ps) p q = ap one_more (limit_dots ps p q)

module _ (fs : Scope) (cells : List Cell) where
  -- as many elements as patterns first, and then the others
  pub matched_on : (ps : List PlainPattern) (q : PlainPatterns) (xs ys : List Value) (s : PatternBinds) → length xs ≡ length ps
      → all_matched fs cells (patterns_on ps q) (xs ++ ys) s ≡ and_then (all_matched fs cells (patterns ps) xs s) (all_matched fs cells q ys)
  matched_on [] q [] ys s h = refl
  matched_on [] q (x ∷ xs) ys s h = absurd (omega arith)
  matched_on (p ∷ ps) q [] ys s h = absurd (omega arith)
  matched_on (p ∷ ps) q (x ∷ xs) ys s h = go (λ t. matched_on ps q xs ys t (omega arith)) (matched fs cells p x s)
    where
      go : ((t : PatternBinds) → all_matched fs cells (patterns_on ps q) (xs ++ ys) t ≡ and_then (all_matched fs cells (patterns ps) xs t) (all_matched fs cells q ys))
          → (r : Option PatternBinds) → and_then r (all_matched fs cells (patterns_on ps q) (xs ++ ys)) ≡ and_then (and_then r (all_matched fs cells (patterns ps) xs)) (all_matched fs cells q ys)
      go ih None = refl
      go ih (Some t) = ih t

  -- fewer elements than patterns before are not enough
  pub matched_short : (ps : List PlainPattern) (q : PlainPatterns) (xs : List Value) (s : PatternBinds) → length xs < length ps → all_matched fs cells (patterns_on ps q) xs s ≡ None
  matched_short [] q xs s h = absurd (omega arith)
  matched_short (p ∷ ps) q [] s h = refl
  matched_short (p ∷ ps) q (x ∷ xs) s h = go (λ t. matched_short ps q xs t (omega arith)) (matched fs cells p x s)
    where
      go : ((t : PatternBinds) → all_matched fs cells (patterns_on ps q) xs t ≡ None) → (r : Option PatternBinds) → and_then r (all_matched fs cells (patterns_on ps q) xs) ≡ None
      go ih None = refl
      go ih (Some t) = ih t

  module _ (ps : List PlainPattern) (q : PlainPatterns) (xs : List Value) (s : PatternBinds) (h : length ps ≤ length xs) where
    split : all_matched fs cells (patterns_on ps q) xs s ≡ and_then (all_matched fs cells (patterns ps) (take (length ps) xs) s) (all_matched fs cells q (drop (length ps) xs))
    split =
        ap (λ ys. all_matched fs cells (patterns_on ps q) ys s) (sym (take-append-drop (length ps) xs))
        ∙ matched_on ps q (take (length ps) xs) (drop (length ps) xs) s (omega (arith, length-take (length ps) xs))

    pub before_fails : all_matched fs cells (patterns ps) (take (length ps) xs) s ≡ None → all_matched fs cells (patterns_on ps q) xs s ≡ None
    before_fails e = split ∙ ap (λ r. and_then r (all_matched fs cells q (drop (length ps) xs))) e

    pub before_taken : (t : PatternBinds) → all_matched fs cells (patterns ps) (take (length ps) xs) s ≡ Some t → all_matched fs cells (patterns_on ps q) xs s ≡ all_matched fs cells q (drop (length ps) xs) t
    before_taken t e = split ∙ ap (λ r. and_then r (all_matched fs cells q (drop (length ps) xs))) e

  count_patterns : (ps : List PlainPattern) → count (patterns ps) ≡ length ps
  count_patterns [] = refl
  count_patterns (p ∷ ps) = ap suc (count_patterns ps)

  module _ (p : PlainPattern) (ps : List PlainPattern) (xs : List Value) (s : PatternBinds) where
    pub dots_short : length xs < length ps → all_matched fs cells (dots p (patterns ps)) xs s ≡ None
    dots_short h = rw (count_patterns ps, lt-leb (length ps) (length xs) h) refl

    pub dots_fails : length ps ≤ length xs → repeated (matched fs cells p) (no_rows p s.taken) (take (length xs - length ps) xs) ≡ None → all_matched fs cells (dots p (patterns ps)) xs s ≡ None
    dots_fails h e = rw (count_patterns ps, le-leb (length ps) (length xs) h, e) refl

    pub dots_taken : (rows : Rows) (t : PatternBinds) → length ps ≤ length xs → repeated (matched fs cells p) (no_rows p s.taken) (take (length xs - length ps) xs) ≡ Some rows → t ≡ with_rows s rows
        → all_matched fs cells (dots p (patterns ps)) xs s ≡ all_matched fs cells (patterns ps) (drop (length xs - length ps) xs) t
    dots_taken rows t h e w = rw (count_patterns ps, le-leb (length ps) (length xs) h, e, w) refl
