use Rattle.std.proofs.Common.{ap, ◌∙◌}
use Rattle.stx_object.specs.KeptView.{view_of, whole_of}
use Rattle.stx_object.specs.declared.kept.SyntaxNode.{SyntaxNode}
use Rattle.stx_object.specs.declared.kept.TreeShape.TheVariants as shape
use Rattle.stx_object.proofs.NodeLemmas.{list_node}
use Rattle.stx_object.proofs.kept.Kept.is_list.Goals as goal

pub returns-in-Atom : goal.returns-in-Atom
returns-in-Atom c = c.is_nil.ensures ∙ list_node (whole_of c.self.inside.wrap c.deref-node.result.now) c.args.self.now (ap (λ (x : SyntaxNode). view_of (whole_of c.self.inside.wrap x)) c.deref-node.ensures ∙ c.self.view_is) (shape.Atom c.in-Atom.atom) c.in-Atom.is

pub returns-in-Leaf : goal.returns-in-Leaf
returns-in-Leaf c = list_node (whole_of c.self.inside.wrap c.deref-node.result.now) c.args.self.now (ap (λ (x : SyntaxNode). view_of (whole_of c.self.inside.wrap x)) c.deref-node.ensures ∙ c.self.view_is) (shape.Leaf c.in-Leaf.field-0 c.in-Leaf.field-1) c.in-Leaf.is

pub returns-in-Pair : goal.returns-in-Pair
returns-in-Pair c = list_node (whole_of c.self.inside.wrap c.deref-node.result.now) c.args.self.now (ap (λ (x : SyntaxNode). view_of (whole_of c.self.inside.wrap x)) c.deref-node.ensures ∙ c.self.view_is) (shape.Pair c.in-Pair.field-0 c.in-Pair.field-1 c.in-Pair.field-2) c.in-Pair.is

pub returns-in-Vector : goal.returns-in-Vector
returns-in-Vector c = list_node (whole_of c.self.inside.wrap c.deref-node.result.now) c.args.self.now (ap (λ (x : SyntaxNode). view_of (whole_of c.self.inside.wrap x)) c.deref-node.ensures ∙ c.self.view_is) (shape.Vector c.in-Vector.field-0 c.in-Vector.field-1) c.in-Vector.is
