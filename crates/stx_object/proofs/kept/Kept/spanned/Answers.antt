use Rattle.std.proofs.Common.{◌∙◌, ap}
use Rattle.std.proofs.lemmas.Result.{IfOk-weaker}
use Rattle.stx_object.specs.KeptView.{view_of, whole_of}
use Rattle.stx_object.specs.declared.kept.SyntaxNode.{SyntaxNode}
use Rattle.stx_object.proofs.NodeLemmas.{spanned_node}
use Rattle.stx_object.proofs.kept.Kept.spanned.Goals as goal

pub returns : goal.returns
returns c =
    IfOk-weaker c.new.result _ _
    (λ k h. h ∙ spanned_node (whole_of c.self.inside.wrap c.deref-node.result.now) c.args.self.now (ap (λ (x : SyntaxNode). view_of (whole_of c.self.inside.wrap x)) c.deref-node.ensures ∙ c.self.view_is) c.in_ok-wrap.wrap c.args.span _ c.in_ok-wrap.ensures c.in_ok-shape.ensures)
    c.new.ensures
