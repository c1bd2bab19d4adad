-- The literals and the variables of a pattern have the leaves of its form; its variables take names.
use Rattle.std.proofs.Common.{◌≡◌, ◌≤◌, ℕ, ◌+◌, Bool, true, false, List, [], ◌∷◌, Option, None, Some, Result, Ok, Err, arith, if◌then◌else◌}
use Rattle.base_data.proofs.ElementLemmas.{each-and}
use Rattle.base_data.specs.Act.{after}
use Rattle.base_data.specs.Elements.{Each}
use Rattle.base_data.specs.Gives.{◌>>=◌}
use Rattle.base_data.specs.Named.{Named}
use Rattle.base_data.specs.declared.fault.Fault.{Fault}
use Rattle.base_data.specs.declared.library.LibName.{LibName}
use Rattle.stx_tree.specs.Context.{LeafContext}
use Rattle.stx_tree.specs.Tree as tree
use Rattle.stx_tree.specs.Tree.{Tree}
use Rattle.stx_scope.specs.Stands.{stands}
use Rattle.core_language.specs.Pattern.{PlainPattern, list, vector, PlainPatterns, none, patterns_on}
use Rattle.core_language.specs.declared.core_form.CoreForm.TheVariants as form
use Rattle.eval_pattern.specs.Compile.{PatternScope, TakenVariables, ElementPattern, WalkedPatterns, is_known, is_literal, named, new_variable, leaf_pattern, no_parts, with_part, dots_of, parts_of, with_repeated, next_ellipsis, repeated_part, element, step, walked, list_with, vector_with, pattern, element_patterns, tail_pattern, literals_checked, with_variables, compiled}
use Rattle.eval_pattern.specs.Keywords.{is_form}
use Rattle.eval_pattern.specs.declared.compile.Compiled.{Compiled}
use Rattle.eval_pattern.specs.declared.compile.PatternVariable.{PatternVariable}
use Rattle.law_fresh.specs.Leaves.{TreeHolds, PatternHolds, PatternsHold}
use Rattle.law_fresh.specs.Leaves.{OptionHolds}

-- the type of the parts so far, which its crate keeps to itself
abbrev Given : {A B : Type 0} → (A → B) → Type 0
Given {A} {B} f = A

abbrev PatternParts : Type 0
PatternParts = Given parts_of

-- where there is a value, this holds of it
abbrev pub GaveBy : {A S : Type 0} → (A → S → Type 0) → Result (A × S) Fault → Type 0
GaveBy P (Ok x) = P x.0 x.1
GaveBy P (Err e) = Unit {0}

by-after : {A B S : Type 0} (P : A → S → Type 0) (Q : B → S → Type 0) (r : Result (A × S) Fault) (k : A → S → Result (B × S) Fault) → GaveBy P r → ((a : A) (t : S) → P a t → GaveBy Q (k a t)) → GaveBy Q (after r k)
by-after P Q (Ok x) k h next = next x.0 x.1 h
by-after P Q (Err e) k h next = tt

by-if : {A S : Type 0} (P : A → S → Type 0) (b : Bool) (r q : Result (A × S) Fault) → GaveBy P r → GaveBy P q → GaveBy P (if b then r else q)
by-if P true r q h k = h
by-if P false r q h k = k

module _ (P : LeafContext → Type 0) (own : LibName) where
  abbrev T : Tree → Type 0
  T t = TreeHolds P t

  -- the identifier of a variable
  abbrev pub VariableHolds : PatternVariable → Type 0
  VariableHolds v = T v.id

  -- what was taken so far, from a name on
  abbrev TakenFrom : ℕ → TakenVariables → Type 0
  TakenFrom n s = Each VariableHolds s.0 × ((s.1.library ≡ own) × (n ≤ s.1.number))

  abbrev PatternFrom : ℕ → PlainPattern → TakenVariables → Type 0
  PatternFrom n p u = PatternHolds P p × TakenFrom n u

  abbrev PartsHold : PatternParts → Type 0
  PartsHold x = Each (PatternHolds P) x.before × (OptionHolds (PatternHolds P) x.repeated × Each (PatternHolds P) x.after)

  abbrev PartsFrom : ℕ → PatternParts → TakenVariables → Type 0
  PartsFrom n x u = PartsHold x × TakenFrom n u

  abbrev WalkedFrom : ℕ → WalkedPatterns → TakenVariables → Type 0
  WalkedFrom n w u = PartsFrom n w.1 u

  on-hold : (ps : List PlainPattern) (q : PlainPatterns) → Each (PatternHolds P) ps → PatternsHold P q → PatternsHold P (patterns_on ps q)
  on-hold [] q h k = k
  on-hold (p ∷ ps) q h k = (h.0, on-hold ps q h.1 k)

  dots-hold : (o : Option PlainPattern) (ps : List PlainPattern) → OptionHolds (PatternHolds P) o → Each (PatternHolds P) ps → PatternsHold P (dots_of o ps)
  dots-hold None ps h k = tt
  dots-hold (Some p) ps h k = (h, on-hold ps none k tt)

  parts-hold : (x : PatternParts) → PartsHold x → PatternsHold P (parts_of x)
  parts-hold x h = on-hold x.before (dots_of x.repeated x.after) h.0 (dots-hold x.repeated x.after h.1.0 h.1.1)

  with-part-holds : (o : Option PlainPattern) (x : PatternParts) (p : PlainPattern) → PartsHold x → PatternHolds P p → PartsHold (with_part o x p)
  with-part-holds None x p h k = (each-and (PatternHolds P) x.before p h.0 k, h.1)
  with-part-holds (Some r) x p h k = (h.0, (h.1.0, each-and (PatternHolds P) x.after p h.1.1 k))

  abbrev IsElement : ElementPattern → Type 0
  IsElement x = (depth : ℕ) (n : ℕ) (s : TakenVariables) → TakenFrom n s → GaveBy (PatternFrom n) (x.1 depth s)

  module _ (c : PatternScope) where
    variable-holds : (t : Tree) (depth n : ℕ) (s : TakenVariables) → T t → TakenFrom n s → GaveBy (PatternFrom n) (new_variable c.place t depth s)
    variable-holds t depth n s g h = by-if (PatternFrom n) (is_known s.0 t) _ _ tt (tt, (each-and VariableHolds s.0 (named s.1 t depth) h.0 g, (h.1.0, omega (arith, h.1.1))))

    leaf-holds : (t : Tree) (depth n : ℕ) (s : TakenVariables) → T t → TakenFrom n s → GaveBy (PatternFrom n) (leaf_pattern c t depth s)
    leaf-holds t depth n s g h =
        by-if (PatternFrom n) (is_form form.Ellipsis (stands c.frames t)) _ _ tt
        (by-if (PatternFrom n) (is_form form.Underscore (stands c.frames t)) _ _ (tt, h)
        (by-if (PatternFrom n) (is_literal c.literals t) _ _ (g, h) (variable-holds t depth n s g h)))

    repeated-holds : (n : ℕ) (x : PatternParts) (e : Tree) (p : PlainPattern) (u : TakenVariables) → PartsHold x → PatternHolds P p → TakenFrom n u → GaveBy (WalkedFrom n) (repeated_part c.place e x p u)
    repeated-holds n x e p u h k j = by x.repeated
      where
        by : (o : Option PlainPattern) → GaveBy (WalkedFrom n) (with_repeated c.place e o x p >>= λ m. Ok ((true, m), u))
        by (Some r) = tt
        by None = ((h.0, (k, h.1.1)), j)

    element-holds : (depth n : ℕ) (x : ElementPattern) (e : Option Tree) (parts : PatternParts) (s : TakenVariables) → IsElement x → PartsFrom n parts s → GaveBy (WalkedFrom n) (element c depth x e parts s)
    element-holds depth n x None parts s one h =
        by-after (PatternFrom n) (WalkedFrom n) (x.1 depth s) (λ p s. Ok ((false, with_part parts.repeated parts p), s)) (one depth n s h.1) (λ p u k. (with-part-holds parts.repeated parts p h.0 k.0, k.1))
    element-holds depth n x (Some e) parts s one h =
        by-after (PatternFrom n) (WalkedFrom n) (x.1 (depth + 1) s) (repeated_part c.place e parts) (one (depth + 1) n s h.1) (λ p u k. repeated-holds n parts e p u h.0 k.0 k.1)

    step-holds : (depth n : ℕ) (skips : Bool) (x : ElementPattern) (e : Option Tree) (parts : PatternParts) (s : TakenVariables) → IsElement x → PartsFrom n parts s → GaveBy (WalkedFrom n) (step c depth skips x e parts s)
    step-holds depth n true x e parts s one h = h
    step-holds depth n false x e parts s one h = element-holds depth n x e parts s one h

    walked-holds : (depth n : ℕ) (skips : Bool) (parts : PatternParts) (xs : List ElementPattern) (s : TakenVariables) → Each IsElement xs → PartsFrom n parts s → GaveBy (PartsFrom n) (walked c depth skips parts xs s)
    walked-holds depth n skips parts [] s all h = h
    walked-holds depth n skips parts (x ∷ xs) s all h =
        by-after (WalkedFrom n) (PartsFrom n) (step c depth skips x (next_ellipsis c.frames xs) parts s) (λ w. walked c depth w.0 w.1 xs) (step-holds depth n skips x (next_ellipsis c.frames xs) parts s all.0 h)
        (λ w v k. walked-holds depth n w.0 w.1 xs v all.1 k)

    vector-holds : (depth n : ℕ) (xs : List ElementPattern) (s : TakenVariables) → Each IsElement xs → TakenFrom n s → GaveBy (PatternFrom n) (vector_with (walked c depth false no_parts xs) s)
    vector-holds depth n xs s all h =
        by-after (PartsFrom n) (PatternFrom n) (walked c depth false no_parts xs s) (λ parts s. Ok (vector (parts_of parts), s)) (walked-holds depth n false no_parts xs s all ((tt, (tt, tt)), h)) (λ parts u k. (parts-hold parts k.0, k.1))

    list-holds : (depth n : ℕ) (xs : List ElementPattern) (tail : TakenVariables → Result (PlainPattern × TakenVariables) Fault) (s : TakenVariables) → Each IsElement xs → ((u : TakenVariables) → TakenFrom n u → GaveBy (PatternFrom n) (tail u)) → TakenFrom n s
        → GaveBy (PatternFrom n) (list_with (walked c depth false no_parts xs) tail s)
    list-holds depth n xs tail s all last h =
        by-after (PartsFrom n) (PatternFrom n) (walked c depth false no_parts xs s) (λ parts s. after (tail s) (λ p s. Ok (list (parts_of parts) p, s))) (walked-holds depth n false no_parts xs s all ((tt, (tt, tt)), h))
        (λ parts u k. by-after (PatternFrom n) (PatternFrom n) (tail u) (λ p s. Ok (list (parts_of parts) p, s)) (last u k.1) (λ p v j. ((parts-hold parts k.0, j.0), j.1)))

    mutual
      pattern-holds : (t : Tree) → T t → (depth n : ℕ) (s : TakenVariables) → TakenFrom n s → GaveBy (PatternFrom n) (pattern c t depth s)
      pattern-holds (tree.atom r a) g depth n s h = (tt, h)
      pattern-holds (tree.leaf r x j) g depth n s h = leaf-holds (tree.leaf r x j) depth n s g h
      pattern-holds (tree.pair r a d) g depth n s h =
          list-holds depth n ((a, pattern c a) ∷ element_patterns c d) (tail_pattern c d depth) s ((λ e m u k. pattern-holds a g.0 e m u k), elements-hold d g.1) (λ u k. tail-holds d g.1 depth n u k) h
      pattern-holds (tree.vector r d) g depth n s h = vector-holds depth n (element_patterns c d) s (elements-hold d g) h

      elements-hold : (t : Tree) → T t → Each IsElement (element_patterns c t)
      elements-hold (tree.atom r a) g = tt
      elements-hold (tree.leaf r x j) g = tt
      elements-hold (tree.pair r a d) g = ((λ e m u k. pattern-holds a g.0 e m u k), elements-hold d g.1)
      elements-hold (tree.vector r d) g = tt

      tail-holds : (t : Tree) → T t → (depth n : ℕ) (s : TakenVariables) → TakenFrom n s → GaveBy (PatternFrom n) (tail_pattern c t depth s)
      tail-holds (tree.atom r a) g depth n s h = (tt, h)
      tail-holds (tree.leaf r x j) g depth n s h = leaf-holds (tree.leaf r x j) depth n s g h
      tail-holds (tree.pair r a d) g depth n s h = tail-holds d g.1 depth n s h
      tail-holds (tree.vector r d) g depth n s h = vector-holds depth n (element_patterns c d) s (elements-hold d g) h

  -- a pattern with its variables, and the next name
  abbrev pub CompiledFrom : ℕ → Compiled → Named → Type 0
  CompiledFrom n c new = (PatternHolds P c.pattern × Each VariableHolds c.variables) × ((new.library ≡ own) × (n ≤ new.number))

  pub compiled-holds : (c : PatternScope) (t : Tree) (names : Named) → T t → names.library ≡ own → GaveBy (CompiledFrom names.number) (compiled c t names)
  compiled-holds c t names g e = checked (literals_checked c.frames c.place c.literals)
    where
      of : (r : Result (PlainPattern × TakenVariables) Fault) → GaveBy (PatternFrom names.number) r → GaveBy (CompiledFrom names.number) (with_variables r)
      of (Err e) h = tt
      of (Ok p) h = ((h.0, h.1.0), h.1.1)

      checked : (r : Result (Unit {0}) Fault) → GaveBy (CompiledFrom names.number) (r >>= λ _. with_variables (pattern c t 0 ([], names)))
      checked (Err e) = tt
      checked (Ok x) = of (pattern c t 0 ([], names)) (pattern-holds c t g 0 names.number ([], names) (tt, (e, omega arith)))
