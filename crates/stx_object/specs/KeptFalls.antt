-- Each part weighs less than its whole.
use Rattle.std.specs.Prelude.{suc, ◌+◌, ◌≤◌, List, Option}
use Rattle.std.proofs.Common.{◌≡◌, ◌∙◌, refl, ap, arith}
use Rattle.base_data.specs.declared.span.Span.{Span}
use Rattle.stx_tree.specs.Tree.{Tree, atom, leaf, pair, vector, spanned}
use Rattle.stx_tree.specs.Changes.{changed}
use Rattle.stx_tree.specs.declared.change.Change.{Change}
use Rattle.stx_object.specs.declared.kept.TreeShape.{TreeShape}
use Rattle.stx_object.specs.declared.kept.TreeShape.TheVariants as shape
use Rattle.stx_object.specs.declared.kept.Kept.TheDeep.{deep-TreeShape}
use Rattle.stx_object.specs.Kept.{weight}
use Rattle.stx_object.specs.KeptView.{shape_tree, seen}

pub weight-changed : (xs : List Change) (t : Tree) → weight (changed xs t) ≡ weight t
weight-changed xs (atom s a) = refl
weight-changed xs (leaf s x c) = refl
weight-changed xs (pair s a d) = ap (λ n. suc (n + weight (changed xs d))) (weight-changed xs a) ∙ ap (λ n. suc (weight a + n)) (weight-changed xs d)
weight-changed xs (vector s d) = ap suc (weight-changed xs d)

pub weight-spanned : (s : Option Span) (t : Tree) → weight (spanned s t) ≡ weight t
weight-spanned s (atom _ a) = refl
weight-spanned s (leaf _ x c) = refl
weight-spanned s (pair _ a d) = refl
weight-spanned s (vector _ d) = refl

pub weight-seen : (ws : List Change) (s : Option Span) (f : TreeShape) → weight (seen ws s f) ≡ weight (shape_tree f)
weight-seen ws s f = weight-changed ws (spanned s (shape_tree f)) ∙ weight-spanned s (shape_tree f)

shape_falls : (f : TreeShape) → deep-TreeShape f ≤ weight (shape_tree f)
shape_falls (shape.Atom a) = omega arith
shape_falls (shape.Leaf x c) = omega arith
shape_falls (shape.Pair e a d) = omega arith
shape_falls (shape.Vector e d) = omega arith

pub seen_falls : (ws : List Change) (s : Option Span) (f : TreeShape) → deep-TreeShape f ≤ weight (seen ws s f)
seen_falls ws s f = omega (arith, shape_falls f, weight-seen ws s f)
