use Rattle.std.proofs.Common.{None, refl, ap, ◌∙◌, sym, subst}
use Rattle.stx_object.specs.KeptView.{view_of, whole_of, InShape, IsPair, IsVector}
use Rattle.stx_object.specs.declared.kept.HeightAndSize.{HeightAndSize}
use Rattle.stx_object.specs.declared.kept.SyntaxNode.{SyntaxNode}
use Rattle.stx_object.specs.declared.kept.TreeShape.TheVariants as shape
use Rattle.stx_tree.specs.Tree.{leaf, vector}
use Rattle.stx_object.proofs.Lengths.{counted_none}
use Rattle.stx_object.proofs.NodeLemmas.{extent_node}
use Rattle.stx_object.proofs.kept.Kept.extent.Goals as goal

pub returns-in-Pair : goal.returns-in-Pair
returns-in-Pair c =
    let here : IsPair c.in-Pair.extent c.in-Pair.field-1 c.in-Pair.field-2 = subst InShape c.in-Pair.is (subst (λ (n : SyntaxNode). InShape n.shape) (sym c.deref-node.ensures) c.self.invariant) in
    extent_node (whole_of c.self.inside.wrap c.deref-node.result.now) c.args.self.now (ap (λ (x : SyntaxNode). view_of (whole_of c.self.inside.wrap x)) c.deref-node.ensures ∙ c.self.view_is) c.in-Pair.extent (shape.Pair c.in-Pair.extent c.in-Pair.field-1 c.in-Pair.field-2) c.in-Pair.is here.extent

pub returns-in-Vector : goal.returns-in-Vector
returns-in-Vector c =
    let here : IsVector c.in-Vector.extent c.in-Vector.field-1 = subst InShape c.in-Vector.is (subst (λ (n : SyntaxNode). InShape n.shape) (sym c.deref-node.ensures) c.self.invariant) in
    extent_node (whole_of c.self.inside.wrap c.deref-node.result.now) c.args.self.now (ap (λ (x : SyntaxNode). view_of (whole_of c.self.inside.wrap x)) c.deref-node.ensures ∙ c.self.view_is) c.in-Vector.extent (shape.Vector c.in-Vector.extent c.in-Vector.field-1) c.in-Vector.is (here.height, here.size, counted_none (vector None c.in-Vector.field-1) c.in-Vector.extent.counted here.counted)

pub returns-in-Atom : goal.returns-in-Atom
returns-in-Atom c = extent_node (whole_of c.self.inside.wrap c.deref-node.result.now) c.args.self.now (ap (λ (x : SyntaxNode). view_of (whole_of c.self.inside.wrap x)) c.deref-node.ensures ∙ c.self.view_is) c.atom_extent.result (shape.Atom c.in-Atom.atom) c.in-Atom.is c.atom_extent.ensures

pub returns-in-Leaf : goal.returns-in-Leaf
returns-in-Leaf c =
    let e : HeightAndSize = record { height = 1; size = 1; counted = 0 } in
    extent_node (whole_of c.self.inside.wrap c.deref-node.result.now) c.args.self.now (ap (λ (x : SyntaxNode). view_of (whole_of c.self.inside.wrap x)) c.deref-node.ensures ∙ c.self.view_is) e (shape.Leaf c.in-Leaf.field-0 c.in-Leaf.field-1) c.in-Leaf.is (refl, refl, counted_none (leaf None c.in-Leaf.field-0 c.in-Leaf.field-1) 0 refl)
