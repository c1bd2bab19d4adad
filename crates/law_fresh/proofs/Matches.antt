-- The elements of a list or a vector have the leaves of the tree.
use Rattle.base_data.specs.Elements.{Each}
use Rattle.stx_tree.specs.Context.{LeafContext}
use Rattle.stx_tree.specs.Tree.{Tree}
use Rattle.core_shapes.specs.Lists.{elements}
use Rattle.law_invariants.proofs.Matches as matches
use Rattle.law_fresh.specs.Leaves.{TreeHolds, leaves}
use Rattle.law_fresh.proofs.Closed.{leaves-closed}

pub elements_of_tree : (P : LeafContext → Type 0) (d : Tree) → TreeHolds P d → Each (TreeHolds P) (elements d)
elements_of_tree P d h = matches.elements_of_tree (leaves P) (leaves-closed P) d h
