-- The elements of a list or a vector can be read.
use Rattle.base_data.specs.Elements.{Each}
use Rattle.stx_tree.specs.Tree.{Tree}
use Rattle.core_shapes.specs.Lists.{elements}
use Rattle.law_invariants.proofs.Matches as matches
use Rattle.law_readable.specs.Readable.{ReadableTree, readable}
use Rattle.law_readable.proofs.Steady.{readable-closed}

pub elements_of_tree : (d : Tree) → ReadableTree d → Each ReadableTree (elements d)
elements_of_tree d h = matches.elements_of_tree readable readable-closed d h
