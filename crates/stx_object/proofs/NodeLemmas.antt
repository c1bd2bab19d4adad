-- What a node shows, and what it shows under other changes and spans.
use Rattle.std.proofs.Common.{◌≡◌, List, [], ◌++◌, Option, None, Some, refl, sym, ap, ◌∙◌, subst, arith}
use Rattle.base_data.specs.declared.span.Span.{Span}
use Rattle.stx_tree.specs.Context.{LeafContext, acts}
use Rattle.stx_tree.specs.Tree.{Tree, pair, spanned, unspanned, span_of, is_list}
use Rattle.stx_tree.specs.Measures.{size, height, Fits}
use Rattle.stx_tree.specs.Changes.{changed}
use Rattle.stx_tree.specs.declared.change.Change.{Change}
use Rattle.stx_tree.proofs.ContextLaws.{acts-append}
use Rattle.stx_tree.proofs.TreeLaws.{changed-none, changed-append, changed-by, changed-spanned, changed-unspanned, spanned-spanned, unspanned-spanned, is_list-changed, is_list-spanned}
use Rattle.stx_tree.proofs.MeasureLaws.{size-changed, height-changed, size-spanned, height-spanned}
use Rattle.stx_object.specs.Kept.{weight, IsRest, Parts}
use Rattle.stx_object.specs.KeptFalls.{weight-seen}
use Rattle.stx_object.specs.KeptView.{shape_tree, seen, view_of, WholeNode, IsExtent, InShape}
use Rattle.stx_object.specs.declared.kept.HeightAndSize.{HeightAndSize}
use Rattle.stx_object.specs.declared.kept.TreeShape.{TreeShape}
use Rattle.stx_object.specs.declared.kept.TreeShape.TheVariants as shape
use Rattle.stx_object.proofs.Lengths.{counted_seen}
use Rattle.stx_object.proofs.ListLemmas.{changed_rest}

-- a node with more changes over the same shape
rewrapped : (ws vs outer : List Change) (s : Option Span) (f : TreeShape) → ((c : LeafContext) → acts vs c ≡ acts outer (acts ws c)) → seen vs s f ≡ changed outer (seen ws s f)
rewrapped ws vs outer s f h =
    let t = spanned s (shape_tree f) in
    changed-by vs (ws ++ outer) (λ c. h c ∙ sym (acts-append ws outer c)) t ∙ changed-append ws outer t

-- a node with another span over the same shape
respanned : (ws : List Change) (r s : Option Span) (f : TreeShape) → seen ws r f ≡ spanned r (seen ws s f)
respanned ws r s f = ap (changed ws) (sym (spanned-spanned r s (shape_tree f))) ∙ changed-spanned ws r (spanned s (shape_tree f))

shape_fits : (f : TreeShape) → InShape f → Fits (shape_tree f)
shape_fits (shape.Atom a) h = (omega arith, omega arith)
shape_fits (shape.Leaf x c) h = (omega arith, omega arith)
shape_fits (shape.Pair e a d) h = h.fits
shape_fits (shape.Vector e d) h = h.fits

seen_height : (ws : List Change) (s : Option Span) (f : TreeShape) → height (seen ws s f) ≡ height (shape_tree f)
seen_height ws s f = height-changed ws (spanned s (shape_tree f)) ∙ height-spanned s (shape_tree f)

seen_size : (ws : List Change) (s : Option Span) (f : TreeShape) → size (seen ws s f) ≡ size (shape_tree f)
seen_size ws s f = size-changed ws (spanned s (shape_tree f)) ∙ size-spanned s (shape_tree f)

-- a new node has no changes
pub new_node : (ws : List Change) (t : Tree) → ws ≡ [] → changed ws t ≡ t
new_node ws t e = ap (λ xs. changed xs t) e ∙ changed-none t

module _ (n : WholeNode) (k : Tree) (shown : view_of n ≡ k) where
  pub under_node : (ws outer : List Change) (s : Option Span) (f : TreeShape) → ((c : LeafContext) → acts ws c ≡ acts outer (acts n.wrap c)) → s ≡ n.span → f ≡ n.shape → seen ws s f ≡ changed outer k
  under_node ws outer s f w e g =
      ap (λ x. seen ws x f) e ∙ ap (seen ws n.span) g ∙ rewrapped n.wrap ws outer n.span n.shape w ∙ ap (changed outer) shown

  pub spanned_node : (ws : List Change) (s : Option Span) (f : TreeShape) → ws ≡ n.wrap → f ≡ n.shape → seen ws s f ≡ spanned s k
  spanned_node ws s f w g =
      ap (λ x. seen x s f) w ∙ ap (seen n.wrap s) g ∙ respanned n.wrap s n.span n.shape ∙ ap (spanned s) shown

  pub bare_node : n.span ≡ None → k ≡ spanned None k
  bare_node e = sym shown ∙ ap (λ s. seen n.wrap s n.shape) e ∙ spanned_node n.wrap None n.shape refl refl

  pub tree_node : (f : TreeShape) → n.shape ≡ f → seen n.wrap n.span f ≡ k
  tree_node f g = ap (seen n.wrap n.span) (sym g) ∙ shown

  pub list_node : (f : TreeShape) → n.shape ≡ f → is_list (shape_tree f) ≡ is_list k
  list_node f g =
      sym (is_list-changed n.wrap (spanned n.span (shape_tree f)) ∙ is_list-spanned n.span (shape_tree f)) ∙ ap is_list (tree_node f g)

  pub extent_node : (e : HeightAndSize) (f : TreeShape) → n.shape ≡ f → IsExtent e (shape_tree f) → IsExtent e k
  extent_node e f g h = subst (IsExtent e) (tree_node f g) (h.0 ∙ sym (seen_height n.wrap n.span f), h.1 ∙ sym (seen_size n.wrap n.span f), counted_seen n.wrap n.span (shape_tree f) e.counted h.2)

  pub fits_node : InShape n.shape → Fits k
  fits_node h =
      let fits = shape_fits n.shape h in
      subst Fits shown (rw (seen_height n.wrap n.span n.shape) fits.0, rw (seen_size n.wrap n.span n.shape) fits.1)

  pub weight_node : (f : TreeShape) → n.shape ≡ f → weight k ≡ weight (shape_tree f)
  weight_node f g = ap weight (sym (tree_node f g)) ∙ weight-seen n.wrap n.span f

  pub parts_node : (e : HeightAndSize) (a d x y : Tree) → n.shape ≡ shape.Pair e a d → IsRest d → x ≡ changed n.wrap a → y ≡ changed n.wrap d → Parts (Some (x, y)) k
  parts_node e a d x y g r p q =
      let t : pair n.span (changed n.wrap a) (changed n.wrap d) ≡ k = tree_node (shape.Pair e a d) g in (
        sym t ∙ ap (λ s. pair s (changed n.wrap a) (changed n.wrap d)) (ap span_of t) ∙ ap (λ u. pair (span_of k) u (changed n.wrap d)) (sym p) ∙ ap (pair (span_of k) x) (sym q),
        subst IsRest (sym q) (changed_rest n.wrap d r),
      )

  pub unspanned_node : (f : TreeShape) → n.shape ≡ f → changed n.wrap (unspanned (shape_tree f)) ≡ unspanned k
  unspanned_node f g =
      let t = shape_tree f in
      changed-unspanned n.wrap t
      ∙ sym (sym (changed-unspanned n.wrap (spanned n.span t)) ∙ ap (changed n.wrap) (unspanned-spanned n.span t) ∙ changed-unspanned n.wrap t)
      ∙ ap unspanned (tree_node f g)
