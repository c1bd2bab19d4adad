-- Between data and trees.
use Rattle.std.proofs.Common.{◌≡◌, List, ◌++◌, map, refl, ap, sym, ◌∙◌}
use Rattle.std.proofs.lemmas.List.{map-append}
use Rattle.base_data.specs.Datum.{PlainDatum, atom, symbol, pair, vector}
use Rattle.stx_tree.specs.Context.{LeafContext, acts}
use Rattle.stx_tree.specs.Tree.{Tree}
use Rattle.stx_tree.specs.Tree as tree
use Rattle.stx_tree.specs.Changes.{changed}
use Rattle.stx_tree.specs.Leaves.{tree_of, strip, contexts}
use Rattle.stx_tree.specs.declared.change.Change.{Change}

pub strip-changed : (xs : List Change) (t : Tree) → strip (changed xs t) ≡ strip t
strip-changed xs (tree.atom s a) = refl
strip-changed xs (tree.leaf s x c) = refl
strip-changed xs (tree.pair s a d) = let ea = strip-changed xs a in let ed = strip-changed xs d in cc
strip-changed xs (tree.vector s d) = ap (vector s) (strip-changed xs d)

pub strip-tree_of : (c : LeafContext) (d : PlainDatum) → strip (tree_of c d) ≡ d
strip-tree_of c (atom s a) = refl
strip-tree_of c (symbol s x) = refl
strip-tree_of c (pair s d e) = let ed = strip-tree_of c d in let ee = strip-tree_of c e in cc
strip-tree_of c (vector s d) = ap (vector s) (strip-tree_of c d)

pub contexts-changed : (xs : List Change) (t : Tree) → contexts (changed xs t) ≡ map (acts xs) (contexts t)
contexts-changed xs (tree.atom s a) = refl
contexts-changed xs (tree.leaf s x c) = refl
contexts-changed xs (tree.pair s a d) =
    ap (λ cs. cs ++ contexts (changed xs d)) (contexts-changed xs a) ∙ ap (λ cs. map (acts xs) (contexts a) ++ cs) (contexts-changed xs d)
    ∙ sym (map-append (acts xs) (contexts a) (contexts d))
contexts-changed xs (tree.vector s d) = contexts-changed xs d
