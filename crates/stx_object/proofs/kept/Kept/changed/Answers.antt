use Rattle.std.proofs.Common.{◌≡◌, ◌∙◌, ap, refl, ◌∷◌, []}
use Rattle.stx_object.specs.KeptView.{view_of, whole_of}
use Rattle.stx_object.specs.declared.kept.SyntaxNode.{SyntaxNode}
use Rattle.stx_object.proofs.NodeLemmas.{under_node}
use Rattle.stx_object.proofs.kept.Kept.changed.Goals as goal

pub returns : goal.returns
returns c =
    let n = whole_of c.self.inside.wrap c.self.inside.node.value in
    let same : c.in_ok-node.node.value ≡ c.self.inside.node.value = c.in_ok-node.ensures.cases in
    ap (λ (x : SyntaxNode). view_of (whole_of c.in_ok-wrap.wrap x)) same
    ∙ under_node n c.args.self.now c.self.view_is c.in_ok-wrap.wrap (c.args.change ∷ []) n.span n.shape c.in_ok-wrap.ensures refl refl
