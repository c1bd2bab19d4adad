-- The pattern that a form stands for is spelled where the form is, and has no more levels than the form is high.
use Rattle.std.proofs.Common.{◌≡◌, ◌≤◌, ◌+◌, ℕ, zero, suc, max, true, List, [], ◌∷◌, map, Option, Ok, refl, subst, arith}
use Rattle.base_data.specs.Named.{Named}
use Rattle.base_data.specs.declared.span.Span.{Span}
use Rattle.stx_tree.specs.Measures.{max_height, height}
use Rattle.stx_tree.specs.Tree.{Tree, pair, vector}
use Rattle.stx_frames.specs.Scope.{Scope}
use Rattle.core_codec.specs.Code.{has_no_dots}
use Rattle.core_language.specs.Pattern as pattern
use Rattle.core_language.specs.Pattern.{PlainPattern, PlainPatterns, patterns}
use Rattle.eval_pattern.specs.Compile.{PatternScope, compiled}
use Rattle.eval_pattern.specs.declared.compile.Compiled.{Compiled}
use Rattle.eval_pattern.specs.declared.compile.PatternVariable.{PatternVariable}
use Rattle.base_data.specs.Elements.{Each}
use Rattle.expand_quasi.specs.Inserted.{pattern_under, insert_pattern, inserts_pattern}
use Rattle.law_core.specs.WellMade.{IsLeaf}
use Rattle.law_levels.specs.Levels.{pattern_levels, patterns_levels}
use Rattle.law_patterns.specs.Patterns as p
use Rattle.law_patterns.specs.Patterns.{IsChain, IsPattern, AreElements, AreOthers, IsTold}
use Rattle.law_patterns.proofs.Patterns.{chain-of, others-are-bad-patterns}
use Rattle.law_shapes.specs.Grammar as g
use Rattle.law_shapes.specs.Grammar.{IsId}
use Rattle.law_spellings.specs.Spelled.{SpelledTree, SpelledPattern, SpelledPatterns, EachSpelled}
use Rattle.law_spellings.proofs.Heights.{least, itself, height-some, Below, chain-low, end-low}

-- Levels, of any form.

more-low : (a b n : ℕ) → a + 1 ≤ n → b + 1 ≤ n → suc (max a b) ≤ n
more-low a b n h k = omega (arith, h, k)

max-low : (a b n : ℕ) → a + 1 ≤ n → b + 1 ≤ n → max a b + 1 ≤ n
max-low a b n h k = omega (arith, h, k)

next-low : (a b n : ℕ) → a ≤ b → b + 1 ≤ n → a + 1 ≤ n
next-low a b n h k = omega (arith, h, k)

suc-low : (a n : ℕ) → a + 1 ≤ n → suc a ≤ n
suc-low a n h = omega (arith, h)

module _ (fs : Scope) (literals : List Tree) where
  mutual
    levels : {depth : ℕ} {t : Tree} {vs : List PatternVariable} {q : PlainPattern} → IsPattern fs literals depth t vs q → pattern_levels q ≤ height t
    levels (p.an_underscore {t = t} k) = height-some t
    levels (p.a_literal {t = t} k among) = height-some t
    levels (p.a_variable {t = t} k other) = height-some t
    levels p.a_datum = omega arith
    levels (p.a_list {t = t} {r = e} {x = x} {xs = xs} {ps = ps} {p = q} chain are last) =
        more-low (patterns_levels ps) (pattern_levels q) (height t)
        (all-levels (height t) are (chain-low (height t) (itself (height t)) chain) (height-some t)) (end-low (pattern_levels q) chain (levels last))
    levels (p.a_vector {t = t} {ps = ps} are) =
        suc-low (patterns_levels ps) (height t) (all-levels (height t) are (chain-low (height t) (itself (height t)) (chain-of t)) (height-some t))

    all-levels : {depth : ℕ} {xs : List Tree} {vs : List PatternVariable} {ps : PlainPatterns} (n : ℕ) → AreElements fs literals depth xs vs ps → Each (Below n) xs → 1 ≤ n → patterns_levels ps + 1 ≤ n
    all-levels n p.no_element h some = some
    all-levels n (p.an_element {x = x} {p = q} {ps = ps} one are) h some =
        max-low (pattern_levels q) (patterns_levels ps) n (next-low (pattern_levels q) (height x) n (levels one) h.0) (all-levels n are h.1 some)
    all-levels n (p.an_ellipsis {x = x} {p = q} {ps = ps} one word are) h some =
        max-low (pattern_levels q) (patterns_levels ps) n (next-low (pattern_levels q) (height x) n (levels one) h.0) (other-levels n are h.1.1 some)

    other-levels : {depth : ℕ} {xs : List Tree} {vs : List PatternVariable} {ps : PlainPatterns} (n : ℕ) → AreOthers fs literals depth xs vs ps → Each (Below n) xs → 1 ≤ n → patterns_levels ps + 1 ≤ n
    other-levels n p.no_other h some = some
    other-levels n (p.an_other {x = x} {p = q} {ps = ps} one are) h some =
        max-low (pattern_levels q) (patterns_levels ps) n (next-low (pattern_levels q) (height x) n (levels one) h.0) (other-levels n are h.1 some)

-- Parts, of a form that is spelled.

is-leaf : {t : Tree} → IsId t → IsLeaf t
is-leaf g.id = tt

-- the trees of which this holds, and their parts
module _ (first : (s : Option Span) (a d : Tree) → SpelledTree (pair s a d) → SpelledTree a) (rest : (s : Option Span) (a d : Tree) → SpelledTree (pair s a d) → SpelledTree d) (within : (s : Option Span) (d : Tree) → SpelledTree (vector s d) → SpelledTree d) where
  chain-parts : {xs : List Tree} {e t : Tree} → IsChain xs e t → SpelledTree t → Each SpelledTree xs × SpelledTree e
  chain-parts (p.chain_ends k) h = (tt, h)
  chain-parts (p.chain_next {span = s} {x = x} {rest = d} c) h =
      let parts = chain-parts c (rest s x d h) in
      ((first s x d h, parts.0), parts.1)

  module _ (fs : Scope) (literals : List Tree) where
    mutual
      is-spelled : {depth : ℕ} {t : Tree} {vs : List PatternVariable} {q : PlainPattern} → IsPattern fs literals depth t vs q → SpelledTree t → SpelledPattern q
      is-spelled (p.an_underscore k) h = tt
      is-spelled (p.a_literal k among) h = (is-leaf k.is_id, h)
      is-spelled (p.a_variable k other) h = tt
      is-spelled p.a_datum h = h.1.0
      is-spelled (p.a_list chain are last) h =
          let parts = chain-parts chain h in
          (all-spelled are parts.0, is-spelled last parts.1)
      is-spelled (p.a_vector {span = s} {t = t} are) h = all-spelled are (chain-parts (chain-of t) (within s t h)).0

      all-spelled : {depth : ℕ} {xs : List Tree} {vs : List PatternVariable} {ps : PlainPatterns} → AreElements fs literals depth xs vs ps → Each SpelledTree xs → SpelledPatterns ps
      all-spelled p.no_element h = (refl, tt)
      all-spelled (p.an_element one are) h =
          let k = all-spelled are h.1 in
          (k.0, (is-spelled one h.0, k.1))
      all-spelled (p.an_ellipsis one word are) h =
          let k = others-spelled are h.1.1 in
          (k.0, (is-spelled one h.0, k.1))

      others-spelled : {depth : ℕ} {xs : List Tree} {vs : List PatternVariable} {ps : PlainPatterns} → AreOthers fs literals depth xs vs ps → Each SpelledTree xs → (has_no_dots ps ≡ true) × EachSpelled ps
      others-spelled p.no_other h = (refl, tt)
      others-spelled (p.an_other one are) h =
          let k = others-spelled are h.1 in
          (k.0, (is-spelled one h.0, k.1))

  pub compiled-spelled : (c : PatternScope) (t : Tree) (n : Named) (r : Compiled × Named) → compiled c t n ≡ Ok r → SpelledTree t → SpelledPattern r.0.pattern
  compiled-spelled c t n r e h =
      let told : IsTold c t n (Ok r) = subst (IsTold c t n) e (others-are-bad-patterns c t n) in
      is-spelled c.frames c.literals told.is_pattern h

pub compiled-levels : (c : PatternScope) (t : Tree) (n : Named) (r : Compiled × Named) → compiled c t n ≡ Ok r → pattern_levels r.0.pattern ≤ height t
compiled-levels c t n r e =
    let told : IsTold c t n (Ok r) = subst (IsTold c t n) e (others-are-bad-patterns c t n) in
    levels c.frames c.literals told.is_pattern

-- The pattern of inserts: variables, each under one ellipsis at most.

insert-levels : (v : PatternVariable) → v.depth ≤ 1 → pattern_levels (insert_pattern v) ≤ 2
insert-levels v h = by v.depth h
  where
    by : (d : ℕ) → d ≤ 1 → pattern_levels (pattern_under d (pattern.variable v.label)) ≤ 2
    by zero h = omega arith
    by (suc zero) h = omega arith
    by (suc (suc d)) h = absurd (omega (arith, h))

insert-spelled : (v : PatternVariable) → v.depth ≤ 1 → SpelledPattern (insert_pattern v)
insert-spelled v h = by v.depth h
  where
    by : (d : ℕ) → d ≤ 1 → SpelledPattern (pattern_under d (pattern.variable v.label))
    by zero h = tt
    by (suc zero) h = ((refl, (tt, tt)), tt)
    by (suc (suc d)) h = absurd (omega (arith, h))

abbrev Few : PatternVariable → Type 0
Few v = v.depth ≤ 1

all-insert-levels : (vs : List PatternVariable) → Each Few vs → patterns_levels (patterns (map insert_pattern vs)) ≤ 2
all-insert-levels [] h = omega arith
all-insert-levels (v ∷ vs) h = least (pattern_levels (insert_pattern v)) (patterns_levels (patterns (map insert_pattern vs))) 2 (insert-levels v h.0) (all-insert-levels vs h.1)

pub inserts-levels : (vs : List PatternVariable) → Each Few vs → pattern_levels (inserts_pattern vs) ≤ max_height
inserts-levels vs h = by (patterns_levels (patterns (map insert_pattern vs))) (all-insert-levels vs h)
  where
    by : (n : ℕ) → n ≤ 2 → suc (max n 1) ≤ max_height
    by n h = omega (arith, h)

all-inserts-spelled : (vs : List PatternVariable) → Each Few vs → SpelledPatterns (patterns (map insert_pattern vs))
all-inserts-spelled [] h = (refl, tt)
all-inserts-spelled (v ∷ vs) h =
    let k = all-inserts-spelled vs h.1 in
    (k.0, (insert-spelled v h.0, k.1))

pub inserts-spelled : (vs : List PatternVariable) → Each Few vs → SpelledPattern (inserts_pattern vs)
inserts-spelled vs h = (all-inserts-spelled vs h, tt)
