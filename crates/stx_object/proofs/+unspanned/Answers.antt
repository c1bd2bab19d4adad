use Rattle.std.proofs.Common.{◌∙◌, Some, None, ap, sym, subst, arith}
use Rattle.std.proofs.lemmas.Result.{IfOk-weaker}
use Rattle.stx_tree.specs.Tree.{pair, vector, chain, spanned, unspanned, span_of}
use Rattle.stx_tree.specs.Changes.{changed}
use Rattle.stx_tree.specs.Measures.{Fits}
use Rattle.stx_object.specs.Kept.{IsElements, Parts}
use Rattle.stx_object.specs.KeptView.{view_of, whole_of, InShape, IsVector}
use Rattle.stx_object.specs.declared.kept.SyntaxNode.{SyntaxNode}
use Rattle.stx_object.specs.declared.kept.TreeShape.TheVariants as shape
use Rattle.stx_object.proofs.NodeLemmas.{tree_node, weight_node, unspanned_node}
use Rattle.stx_object.proofs.ListLemmas.{unspanned_elements, unspanned_fits, first_more, rest_less}
use Rattle.stx_object.proofs.+unspanned.Goals as goal

pub kept::Kept::unspanned_end-returns-in-Atom : goal.kept::Kept::unspanned_end-returns-in-Atom
kept::Kept::unspanned_end-returns-in-Atom t c =
    let same = tree_node (whole_of c.self.inside.wrap c.deref-node.result.now) c.args.self.now (ap (λ (x : SyntaxNode). view_of (whole_of c.self.inside.wrap x)) c.deref-node.ensures ∙ c.self.view_is) (shape.Atom c.in-Atom.field-0) c.in-Atom.is in
    IfOk-weaker c.bare.result _ _ (λ k h. h ∙ ap (spanned None) (sym same) ∙ ap unspanned same) c.bare.ensures

pub kept::Kept::unspanned_end-returns-in-Leaf : goal.kept::Kept::unspanned_end-returns-in-Leaf
kept::Kept::unspanned_end-returns-in-Leaf t c =
    let same = tree_node (whole_of c.self.inside.wrap c.deref-node.result.now) c.args.self.now (ap (λ (x : SyntaxNode). view_of (whole_of c.self.inside.wrap x)) c.deref-node.ensures ∙ c.self.view_is) (shape.Leaf c.in-Leaf.field-0 c.in-Leaf.field-1) c.in-Leaf.is in
    IfOk-weaker c.bare-in-Leaf.result _ _ (λ k h. h ∙ ap (spanned None) (sym same) ∙ ap unspanned same) c.bare-in-Leaf.ensures

pub kept::Kept::unspanned_end-unspanned-requires : goal.kept::Kept::unspanned_end-unspanned-requires
kept::Kept::unspanned_end-unspanned-requires t c =
    (omega (arith, weight_node (whole_of c.self.inside.wrap c.deref-node.result.now) c.args.self.now (ap (λ (x : SyntaxNode). view_of (whole_of c.self.inside.wrap x)) c.deref-node.ensures ∙ c.self.view_is) (shape.Vector c.in-Vector.field-0 c.in-Vector.elements) c.in-Vector.is), tt)

pub kept::Kept::unspanned_end-into_vector-requires : goal.kept::Kept::unspanned_end-into_vector-requires
kept::Kept::unspanned_end-into_vector-requires t c =
    let here : IsVector c.in-Vector.field-0 c.in-Vector.elements = subst InShape c.in-Vector.is (subst (λ (n : SyntaxNode). InShape n.shape) (sym c.deref-node.ensures) c.self.invariant) in
    subst IsElements (sym c.in_ok-list-in-Vector.ensures) (unspanned_elements c.in-Vector.elements here.elements)

pub kept::Kept::unspanned_end-returns-in_ok-vector-in-Vector : goal.kept::Kept::unspanned_end-returns-in_ok-vector-in-Vector
kept::Kept::unspanned_end-returns-in_ok-vector-in-Vector t c =
    IfOk-weaker c.under.result _ _
    (λ k h. h ∙ ap (changed c.self.inside.wrap) (c.in_ok-vector-in-Vector.ensures ∙ ap (vector None) c.in_ok-list-in-Vector.ensures)
    ∙ unspanned_node (whole_of c.self.inside.wrap c.deref-node.result.now) c.args.self.now (ap (λ (x : SyntaxNode). view_of (whole_of c.self.inside.wrap x)) c.deref-node.ensures ∙ c.self.view_is) (shape.Vector c.in-Vector.field-0 c.in-Vector.elements) c.in-Vector.is)
    c.under.ensures

pub unspanned::unspanned_along-returns-in_default-clause-fits : goal.unspanned::unspanned_along-returns-in_default-clause-fits
unspanned::unspanned_along-returns-in_default-clause-fits t c =
    let same = ap (chain c.loop-left.items.items) c.in_ok-end.ensures ∙ c.loop-left.invariant.list in
    subst Fits (sym same) (unspanned_fits c.args.list.now c.within.ensures)

pub unspanned::unspanned_along-loop-left-preserved : goal.unspanned::unspanned_along-loop-left-preserved
unspanned::unspanned_along-loop-left-preserved t c =
    let l = c.loop-left in
    let u = l.left in
    let x = c.in-Some.item in
    let y = c.in-Some.others in
    let z = c.in_ok-item-2.item in
    let p : Parts (Some (x, y)) u = subst (λ o. Parts o u) c.in-Some.is c.in_ok-item.ensures in
    record {
      list = ap (λ xs. chain xs (unspanned y)) c.in_ok-push.ensures.items ∙ first_more l.items.items z (unspanned y)
          ∙ ap (chain l.items.items) (ap (λ i. pair None i (unspanned y)) c.in_ok-item-2.ensures ∙ sym (ap unspanned p.0)) ∙ l.invariant.list;
      less = omega (arith, rest_less u x y (span_of u) p.0, l.invariant.less);
    }
