use Rattle.std.proofs.Common.{◌≡◌, ◌∷◌, ◌++◌}
use Rattle.core_codec.specs.Trees.{elements, is_rest, tail_of}
use Rattle.stx_tree.specs.Measures.{size}
use Rattle.core_tree_bytes.proofs.parts.list_of.Given as goal

abbrev pub invariant-loop-left : goal.invariant-loop-left
invariant-loop-left l = (l.items.items ++ elements l.left ≡ l.fn.first ∷ elements l.fn.rest) × (tail_of l.left ≡ tail_of l.fn.rest) × (is_rest l.left ≡ is_rest l.fn.rest)

abbrev pub decreases-loop-left : goal.decreases-loop-left
decreases-loop-left l = size l.left
