-- Of the elements of a list or a vector the law holds.
use Rattle.base_data.specs.Elements.{Each}
use Rattle.stx_tree.specs.Tree.{Tree}
use Rattle.core_shapes.specs.Lists.{elements}
use Rattle.law_invariants.proofs.Matches as matches
use Rattle.law_limits.specs.Holds.{trees}
use Rattle.law_limits.specs.Lawful.{IsLawful}
use Rattle.law_limits.proofs.Steady.{trees-closed}

pub elements_of_tree : (T : Tree → Type 0) → IsLawful T → (d : Tree) → T d → Each T (elements d)
elements_of_tree T lawful d h = matches.elements_of_tree (trees T) (trees-closed T lawful) d h
