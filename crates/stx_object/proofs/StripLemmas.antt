-- The datum of a list.
use Rattle.std.proofs.Common.{◌≡◌, true, false, List, [], ◌∷◌, ◌++◌, Option, None, Some, refl, sym, ap, ◌∙◌}
use Rattle.std.specs.Prelude.{◌&&◌}
use Rattle.base_data.specs.declared.span.Span.{Span}
use Rattle.base_data.specs.declared.atom.Atom.TheVariants.{Nil, Bool as Boolean, Int, Spelt, Char, Str, Bytes}
use Rattle.base_data.specs.Datum.{PlainDatum, listed, is_tail}
use Rattle.base_data.specs.Datum as datum
use Rattle.base_data.specs.DatumView.{is_some_list}
use Rattle.stx_tree.specs.Tree.{Tree, atom, leaf, pair, vector, spanned, is_pair}
use Rattle.stx_tree.specs.Leaves.{strip}
use Rattle.stx_tree.proofs.LeafLaws.{strip-changed}
use Rattle.stx_object.specs.Kept.{IsRest, IsElements}
use Rattle.stx_object.specs.KeptView.{shape_tree, view_of, WholeNode}
use Rattle.stx_object.specs.declared.kept.TreeShape.{TreeShape}
use Rattle.stx_object.proofs.NodeLemmas.{tree_node}
use Rattle.stx_object.proofs.ListLemmas.{elements_end}

data-append : (ds es : List PlainDatum) (t : PlainDatum) → datum.chain (ds ++ es) t ≡ datum.chain ds (datum.chain es t)
data-append [] es t = refl
data-append (d ∷ ds) es t = ap (datum.pair None d) (data-append ds es t)

-- the datum of the first element goes behind those before it
pub strip_more : (ds : List PlainDatum) (t x y : Tree) (d : PlainDatum) (all : PlainDatum) → t ≡ pair None x y → d ≡ strip x → datum.chain ds (strip t) ≡ all → datum.chain (ds ++ d ∷ []) (strip y) ≡ all
strip_more ds t x y d all e h so_far =
    data-append ds (d ∷ []) (strip y) ∙ ap (λ u. datum.chain ds (datum.pair None u (strip y))) h ∙ ap (λ u. datum.chain ds (strip u)) (sym e) ∙ so_far

pub some_more : (ds : List PlainDatum) (d : PlainDatum) → is_some_list (ds ++ d ∷ []) ≡ true
some_more [] d = refl
some_more (e ∷ es) d = refl

pub strip_end : (ds : List PlainDatum) (t : Tree) (all : PlainDatum) → is_pair t ≡ false → IsElements t → datum.chain ds (strip t) ≡ all → datum.chain ds datum.nil ≡ all
strip_end ds t all p h so_far = ap (λ u. datum.chain ds (strip u)) (sym (elements_end t p h)) ∙ so_far

end_tail : (t : Tree) → is_pair t ≡ false → IsRest t → is_tail (strip t) ≡ true
end_tail (atom None Nil) p h = refl
end_tail (atom (Some s) Nil) p h = absurd (cc)
end_tail (atom None (Boolean _)) p h = refl
end_tail (atom None (Int _)) p h = refl
end_tail (atom None (Spelt _)) p h = refl
end_tail (atom None (Char _)) p h = refl
end_tail (atom None (Str _)) p h = refl
end_tail (atom None (Bytes _)) p h = refl
end_tail (atom (Some s) (Boolean _)) p h = refl
end_tail (atom (Some s) (Int _)) p h = refl
end_tail (atom (Some s) (Spelt _)) p h = refl
end_tail (atom (Some s) (Char _)) p h = refl
end_tail (atom (Some s) (Str _)) p h = refl
end_tail (atom (Some s) (Bytes _)) p h = refl
end_tail (leaf s x c) p h = refl
end_tail (pair s a d) p h = absurd (cc)
end_tail (vector s d) p h = refl

-- the datum of a list is of its form
pub proper : (ds : List PlainDatum) (e : PlainDatum) (t : Tree) → is_some_list ds ≡ true → e ≡ strip t → is_pair t ≡ false → IsRest t → is_some_list ds && is_tail e ≡ true
proper ds e t some h p r =
    let last : is_tail e ≡ true = ap is_tail h ∙ end_tail t p r in
    rw (some, last) refl

strip-spanned : (s : Option Span) (t : Tree) → strip (spanned s t) ≡ datum.spanned s (strip t)
strip-spanned s (atom _ a) = refl
strip-spanned s (leaf _ x c) = refl
strip-spanned s (pair _ a d) = refl
strip-spanned s (vector _ d) = refl

pub strip_node : (n : WholeNode) (k : Tree) → view_of n ≡ k → (f : TreeShape) → n.shape ≡ f → datum.spanned n.span (strip (shape_tree f)) ≡ strip k
strip_node n k shown f g =
    sym (strip-changed n.wrap (spanned n.span (shape_tree f)) ∙ strip-spanned n.span (shape_tree f)) ∙ ap strip (tree_node n k shown f g)
