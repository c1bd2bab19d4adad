-- When two leaves are the same (R6RS libraries 12.5).
use Rattle.std.specs.Prelude.{ℕ, Bool, false, ◌&&◌, nat_eq, List, Option, None, Some}
use Rattle.std.specs.Cmp.Lexicographic.{pointwise}
use Rattle.base_data.specs.Same.{same_name}
use Rattle.base_data.specs.declared.name.Label.{Label}
use Rattle.stx_tree.specs.Leaves.{marks_of}
use Rattle.stx_tree.specs.SameMarks.{same_marks}
use Rattle.stx_tree.specs.Tree.{Tree}
use Rattle.stx_frames.specs.Scope.{Scope}
use Rattle.stx_scope.specs.Stands.{symbol_of, stands}

-- as binders: one symbol and the same marks
abbrev pub same_binder : Tree → Tree → Bool
same_binder a b = pointwise nat_eq (symbol_of a) (symbol_of b) && same_marks (marks_of a) (marks_of b)

-- what a reference means: a binding, known by its label, or a symbol that is free
pub data Meaning : Type 0 where
  bound : Label → Meaning
  free : List ℕ → Meaning

abbrev pub meant : Option Label → List ℕ → Meaning
meant None s = free s
meant (Some l) s = bound l

abbrev pub meaning : Scope → Tree → Meaning
meaning fs t = meant (stands fs t) (symbol_of t)

abbrev pub same_meaning : Meaning → Meaning → Bool
same_meaning (bound l) (bound m) = same_name l.0 m.0
same_meaning (bound l) (free t) = false
same_meaning (free s) (bound m) = false
same_meaning (free s) (free t) = pointwise nat_eq s t

-- as references: one label, or none and one symbol
abbrev pub same_binding : Scope → Tree → Tree → Bool
same_binding fs a b = same_meaning (meaning fs a) (meaning fs b)
