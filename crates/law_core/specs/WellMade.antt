-- Well made core code.
use Rattle.std.specs.Prelude.{◌≡◌, ℕ, ◌≤◌, ◌<◌, nat_le, nat_lt, ◌==◌, Bool, true, false, not, ◌&&◌, List, ◌++◌, map}
use Rattle.std.specs.List.{flat_map}
use Rattle.base_data.specs.Elements.{Each, Among, Once}
use Rattle.base_data.specs.Op.{name_count}
use Rattle.base_data.specs.Same.{same_name}
use Rattle.base_data.specs.declared.name.Label.{Label}
use Rattle.base_data.specs.declared.name.CodeNo.{CodeNo}
use Rattle.stx_tree.specs.Tree as tree
use Rattle.stx_tree.specs.Tree.{Tree}
use Rattle.core_language.specs.Core.{PlainCore, quoted, variable, primitive, one_armed, two_armed, assignment, sequence, procedure, letrec, call, instance, matching}
use Rattle.core_language.specs.Labels.{same_label}
use Rattle.core_language.specs.References.{binders, mentions}
use Rattle.law_core.specs.Words.{each, among, once}
use Rattle.law_core.specs.Parts.{parts, core_count, case_count, literals, ops, code_numbers, patterns, pattern_variables}
use Rattle.law_core.specs.Templates.{Depths, TemplatesSuit, templates_suit}

abbrev pub IsLeaf : Tree → Type 0
IsLeaf (tree.atom s a) = ⊥
IsLeaf (tree.leaf s x c) = Unit {0}
IsLeaf (tree.pair s a d) = ⊥
IsLeaf (tree.vector s d) = ⊥

abbrev pub is_leaf : Tree → Bool
is_leaf (tree.atom s a) = false
is_leaf (tree.leaf s x c) = true
is_leaf (tree.pair s a d) = false
is_leaf (tree.vector s d) = false

-- a `begin` has two parts or more, and a `lambda` one case
abbrev pub HasForm : PlainCore → Type 0
HasForm (quoted d) = Unit {0}
HasForm (variable l) = Unit {0}
HasForm (primitive o) = Unit {0}
HasForm (one_armed c d) = Unit {0}
HasForm (two_armed c d e) = Unit {0}
HasForm (assignment l c) = Unit {0}
HasForm (sequence cs) = 2 ≤ core_count cs
HasForm (procedure n cs true) = case_count cs ≡ 1
HasForm (procedure n cs false) = Unit {0}
HasForm (letrec o is c) = Unit {0}
HasForm (call c cs) = Unit {0}
HasForm (instance t s) = Unit {0}
HasForm (matching c cs s) = Unit {0}

abbrev pub has_form : PlainCore → Bool
has_form (quoted d) = true
has_form (variable l) = true
has_form (primitive o) = true
has_form (one_armed c d) = true
has_form (two_armed c d e) = true
has_form (assignment l c) = true
has_form (sequence cs) = nat_le 2 (core_count cs)
has_form (procedure n cs true) = case_count cs == 1
has_form (procedure n cs false) = true
has_form (letrec o is c) = true
has_form (call c cs) = true
has_form (instance t s) = true
has_form (matching c cs s) = true

abbrev pub same_code : CodeNo → CodeNo → Bool
same_code n m = same_name n.0 m.0

abbrev pub given_labels : Depths → List Label
given_labels vs = map (λ (v : Label × ℕ). v.0) vs

-- core code is well made under given pattern variables, each with a depth
pub record IsWellMade (given : Depths) (c : PlainCore) : Type 0 where
  -- it is of its form
  pub forms : Each HasForm (parts c)
  pub leaves : Each IsLeaf (flat_map literals (patterns c))
  pub named_ops : Each (λ o. o < name_count) (ops c)
  -- no label has two binders, and no two of its codes have one number
  pub bound_once : Once (binders c)
  pub numbered_once : Once (code_numbers c)
  -- no pattern variable is referenced or assigned
  pub unmentioned : Each (λ l. Among (pattern_variables c ++ given_labels given) l → ⊥) (mentions c)
  pub templates : TemplatesSuit given c

abbrev pub is_well_made : Depths → PlainCore → Bool
is_well_made given c = each has_form (parts c) && (each is_leaf (flat_map literals (patterns c)) && (each (λ o. nat_lt o name_count) (ops c)
    && (once same_label (binders c) && (once same_code (code_numbers c)
    && (each (λ l. not (among same_label (pattern_variables c ++ given_labels given) l)) (mentions c) && templates_suit given c)))))
