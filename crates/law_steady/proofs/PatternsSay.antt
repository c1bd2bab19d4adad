-- No pattern is refused for cells that don't fit.
use Rattle.std.proofs.Common.{ℕ, ◌+◌, Bool, true, false, List, [], ◌∷◌, Option, None, Some, Result, Ok, Err}
use Rattle.base_data.specs.Elements.{Each}
use Rattle.base_data.specs.Named.{Named}
use Rattle.base_data.specs.declared.fault.Fault.{Fault}
use Rattle.base_data.specs.declared.span.Span.{Span}
use Rattle.stx_tree.specs.Tree as tree
use Rattle.stx_tree.specs.Tree.{Tree}
use Rattle.stx_frames.specs.Scope.{Scope}
use Rattle.stx_scope.specs.Stands.{stands}
use Rattle.core_language.specs.Pattern.{PlainPattern}
use Rattle.core_language.specs.declared.core_form.CoreForm.TheVariants as form
use Rattle.eval_pattern.specs.Compile.{PatternScope, TakenVariables, may_be_literal, literals_checked, is_literal, is_known, new_variable, leaf_pattern, no_parts, with_repeated, ElementPattern, next_ellipsis, repeated_part, element, step, walked, vector_with, pattern, element_patterns, tail_pattern, with_variables, compiled}
use Rattle.eval_pattern.specs.Keywords.{is_form}
use Rattle.law_steady.proofs.Says.{Says, says-if, says-then, says-after}

pub says-literals : (fs : Scope) (place : Span) (ts : List Tree) → Says (literals_checked fs place ts)
says-literals fs place [] = tt
says-literals fs place (t ∷ ts) = says-if (may_be_literal fs t) _ _ (says-literals fs place ts) tt

abbrev Quiet : ElementPattern → Type 0
Quiet x = (depth : ℕ) (s : TakenVariables) → Says (x.1 depth s)

module _ (c : PatternScope) where
  says-leaf : (t : Tree) (depth : ℕ) (s : TakenVariables) → Says (leaf_pattern c t depth s)
  says-leaf t depth s =
      says-if (is_form form.Ellipsis (stands c.frames t)) _ _ tt
      (says-if (is_form form.Underscore (stands c.frames t)) _ _ tt (says-if (is_literal c.literals t) _ (new_variable c.place t depth s) tt (says-if (is_known s.0 t) _ _ tt tt)))

  says-repeated : (e : Tree) (o : Option PlainPattern) (parts : _) (p : PlainPattern) → Says (with_repeated c.place e o parts p)
  says-repeated e None parts p = tt
  says-repeated e (Some r) parts p = tt

  says-element : (depth : ℕ) (x : ElementPattern) (o : Option Tree) (parts : _) (s : TakenVariables) → Quiet x → Says (element c depth x o parts s)
  says-element depth x None parts s h = says-after (x.1 depth s) _ (h depth s) (λ p u. tt)
  says-element depth x (Some e) parts s h =
      says-after (x.1 (depth + 1) s) (repeated_part c.place e parts) (h (depth + 1) s) (λ p u. says-then (with_repeated c.place e parts.repeated parts p) (λ more. Ok ((true, more), u)) (says-repeated e parts.repeated parts p) (λ more. tt))

  says-step : (depth : ℕ) (skips : Bool) (x : ElementPattern) (o : Option Tree) (parts : _) (s : TakenVariables) → Quiet x → Says (step c depth skips x o parts s)
  says-step depth true x o parts s h = tt
  says-step depth false x o parts s h = says-element depth x o parts s h

  says-walked : (depth : ℕ) (skips : Bool) (parts : _) (xs : List ElementPattern) (s : TakenVariables) → Each Quiet xs → Says (walked c depth skips parts xs s)
  says-walked depth skips parts [] s h = tt
  says-walked depth skips parts (x ∷ xs) s h =
      says-after (step c depth skips x (next_ellipsis c.frames xs) parts s) (λ w. walked c depth w.0 w.1 xs) (says-step depth skips x (next_ellipsis c.frames xs) parts s h.0) (λ w u. says-walked depth w.0 w.1 xs u h.1)

  says-vector : (depth : ℕ) (xs : List ElementPattern) (s : TakenVariables) → Each Quiet xs → Says (vector_with (walked c depth false no_parts xs) s)
  says-vector depth xs s h = says-after (walked c depth false no_parts xs s) _ (says-walked depth false no_parts xs s h) (λ parts u. tt)

  mutual
    says-pattern : (t : Tree) (depth : ℕ) (s : TakenVariables) → Says (pattern c t depth s)
    says-pattern (tree.atom p a) depth s = tt
    says-pattern (tree.leaf p x k) depth s = says-leaf (tree.leaf p x k) depth s
    says-pattern (tree.pair p a d) depth s =
        says-after (walked c depth false no_parts ((a, pattern c a) ∷ element_patterns c d) s) _ (says-walked depth false no_parts ((a, pattern c a) ∷ element_patterns c d) s (says-pattern a, says-elements d))
        (λ parts u. says-after (tail_pattern c d depth u) _ (says-tail d depth u) (λ q v. tt))
    says-pattern (tree.vector p d) depth s = says-vector depth (element_patterns c d) s (says-elements d)

    says-elements : (t : Tree) → Each Quiet (element_patterns c t)
    says-elements (tree.atom p a) = tt
    says-elements (tree.leaf p x k) = tt
    says-elements (tree.pair p a d) = (says-pattern a, says-elements d)
    says-elements (tree.vector p d) = tt

    says-tail : (t : Tree) (depth : ℕ) (s : TakenVariables) → Says (tail_pattern c t depth s)
    says-tail (tree.atom p a) depth s = tt
    says-tail (tree.leaf p x k) depth s = says-leaf (tree.leaf p x k) depth s
    says-tail (tree.pair p a d) depth s = says-tail d depth s
    says-tail (tree.vector p d) depth s = says-vector depth (element_patterns c d) s (says-elements d)

  says-variables : (r : Result (PlainPattern × TakenVariables) Fault) → Says r → Says (with_variables r)
  says-variables (Ok p) h = tt
  says-variables (Err f) h = h

  pub says-compiled : (t : Tree) (names : Named) → Says (compiled c t names)
  says-compiled t names =
      says-then (literals_checked c.frames c.place c.literals) (λ _. with_variables (pattern c t 0 ([], names))) (says-literals c.frames c.place c.literals) (λ _. says-variables (pattern c t 0 ([], names)) (says-pattern t 0 ([], names)))
