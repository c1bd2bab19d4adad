use Rattle.std.proofs.Common.{◌∙◌, Some, None, ap, sym, subst, arith}
use Rattle.std.proofs.lemmas.Result.{IfOk-weaker}
use Rattle.base_data.specs.Datum as datum
use Rattle.base_data.specs.DatumView.{is_some_list}
use Rattle.stx_tree.specs.Leaves.{strip}
use Rattle.stx_object.specs.Kept.{Parts}
use Rattle.stx_object.specs.KeptView.{view_of, whole_of, InShape, IsPair, IsVector}
use Rattle.stx_object.specs.declared.kept.SyntaxNode.{SyntaxNode}
use Rattle.stx_object.specs.declared.kept.TreeShape.TheVariants as shape
use Rattle.stx_object.proofs.NodeLemmas.{weight_node}
use Rattle.stx_object.proofs.ListLemmas.{rest_pair, elements_pair, elements_rest, rest_less}
use Rattle.stx_object.proofs.StripLemmas.{strip_node, strip_more, some_more}
use Rattle.stx_object.proofs.+strip.Goals as goal

pub kept::Kept::strip-strip_list-requires : goal.kept::Kept::strip-strip_list-requires
kept::Kept::strip-strip_list-requires t c =
    let here : IsPair c.in-Pair.field-0 c.in-Pair.first c.in-Pair.rest = subst InShape c.in-Pair.is (subst (λ (n : SyntaxNode). InShape n.shape) (sym c.deref-node.ensures) c.self.invariant) in
    (omega (arith, weight_node (whole_of c.self.inside.wrap c.deref-node.result.now) c.args.self.now (ap (λ (x : SyntaxNode). view_of (whole_of c.self.inside.wrap x)) c.deref-node.ensures ∙ c.self.view_is) (shape.Pair c.in-Pair.field-0 c.in-Pair.first c.in-Pair.rest) c.in-Pair.is), here.rest)

pub kept::Kept::strip-returns-in-Pair : goal.kept::Kept::strip-returns-in-Pair
kept::Kept::strip-returns-in-Pair t c =
    IfOk-weaker c.strip_list.result _ _
    (λ d h. h ∙ ap (λ s. datum.pair s (strip c.in-Pair.first) (strip c.in-Pair.rest)) c.in_ok-span.ensures
    ∙ strip_node (whole_of c.self.inside.wrap c.deref-node.result.now) c.args.self.now (ap (λ (x : SyntaxNode). view_of (whole_of c.self.inside.wrap x)) c.deref-node.ensures ∙ c.self.view_is) (shape.Pair c.in-Pair.field-0 c.in-Pair.first c.in-Pair.rest) c.in-Pair.is)
    c.strip_list.ensures

pub kept::Kept::strip-strip_elements-requires : goal.kept::Kept::strip-strip_elements-requires
kept::Kept::strip-strip_elements-requires t c =
    let here : IsVector c.in-Vector.field-0 c.in-Vector.elements = subst InShape c.in-Vector.is (subst (λ (n : SyntaxNode). InShape n.shape) (sym c.deref-node.ensures) c.self.invariant) in
    (omega (arith, weight_node (whole_of c.self.inside.wrap c.deref-node.result.now) c.args.self.now (ap (λ (x : SyntaxNode). view_of (whole_of c.self.inside.wrap x)) c.deref-node.ensures ∙ c.self.view_is) (shape.Vector c.in-Vector.field-0 c.in-Vector.elements) c.in-Vector.is), here.elements)

pub kept::Kept::strip-returns-in_ok-items-in-Vector : goal.kept::Kept::strip-returns-in_ok-items-in-Vector
kept::Kept::strip-returns-in_ok-items-in-Vector t c =
    ap (λ xs. datum.vector c.in_ok-span.span (datum.chain xs datum.nil)) c.shrink_to_fit.ensures.items ∙ ap (datum.vector c.in_ok-span.span) c.in_ok-items-in-Vector.ensures ∙ ap (λ s. datum.vector s (strip c.in-Vector.elements)) c.in_ok-span.ensures
    ∙ strip_node (whole_of c.self.inside.wrap c.deref-node.result.now) c.args.self.now (ap (λ (x : SyntaxNode). view_of (whole_of c.self.inside.wrap x)) c.deref-node.ensures ∙ c.self.view_is) (shape.Vector c.in-Vector.field-0 c.in-Vector.elements) c.in-Vector.is

pub strip::strip_along-loop-left-preserved : goal.strip::strip_along-loop-left-preserved
strip::strip_along-loop-left-preserved t c =
    let l = c.loop-left in
    let u = l.left in
    let x = c.in-Some.item in
    let y = c.in-Some.others in
    let p : Parts (Some (x, y)) u = subst (λ o. Parts o u) c.in-Some.is c.in_ok-item.ensures in
    let e = rest_pair u x y p.0 l.invariant.rest in
    record {
      list = ap (λ ds. datum.chain ds (strip y)) c.in_ok-push-2.ensures.items ∙ strip_more l.data.items u x y c.in_ok-datum-2.datum _ e c.in_ok-datum-2.ensures l.invariant.list;
      some = ap is_some_list c.in_ok-push-2.ensures.items ∙ some_more l.data.items c.in_ok-datum-2.datum;
      rest = p.1;
      less = omega (arith, rest_less u x y None e, l.invariant.less);
    }

pub strip::strip_elements-loop-left-preserved : goal.strip::strip_elements-loop-left-preserved
strip::strip_elements-loop-left-preserved t c =
    let l = c.loop-left in
    let u = l.left in
    let x = c.in-Some.item in
    let y = c.in-Some.others in
    let p : Parts (Some (x, y)) u = subst (λ o. Parts o u) c.in-Some.is c.in_ok-item.ensures in
    let e = elements_pair u x y p.0 l.invariant.elements in
    record {
      list = ap (λ ds. datum.chain ds (strip y)) c.in_ok-push.ensures.items ∙ strip_more l.data.items u x y c.in_ok-datum.datum _ e c.in_ok-datum.ensures l.invariant.list;
      elements = elements_rest u x y p.0 l.invariant.elements;
      less = omega (arith, rest_less u x y None e, l.invariant.less);
    }
