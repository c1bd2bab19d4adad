use Rattle.std.proofs.Common.{ap, ◌∙◌, sym, subst}
use Rattle.stx_object.specs.KeptView.{view_of, whole_of, InShape, IsPair}
use Rattle.stx_object.specs.declared.kept.SyntaxNode.{SyntaxNode}
use Rattle.stx_object.proofs.NodeLemmas.{parts_node}
use Rattle.stx_object.proofs.kept.Kept.parts.Goals as goal

pub returns-in_ok-rest-in-Pair : goal.returns-in_ok-rest-in-Pair
returns-in_ok-rest-in-Pair c =
    let here : IsPair c.in-Pair.field-0 c.in-Pair.first c.in-Pair.rest = subst InShape c.in-Pair.is (subst (λ (n : SyntaxNode). InShape n.shape) (sym c.deref-node.ensures) c.self.invariant) in
    parts_node (whole_of c.self.inside.wrap c.deref-node.result.now) c.args.self.now (ap (λ (x : SyntaxNode). view_of (whole_of c.self.inside.wrap x)) c.deref-node.ensures ∙ c.self.view_is) c.in-Pair.field-0 c.in-Pair.first c.in-Pair.rest c.in_ok-first-in-Pair.first c.in_ok-rest-in-Pair.rest c.in-Pair.is here.rest
    c.in_ok-first-in-Pair.ensures c.in_ok-rest-in-Pair.ensures
