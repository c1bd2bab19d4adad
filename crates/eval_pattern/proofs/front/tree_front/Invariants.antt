use Rattle.std.proofs.Common.{◌≡◌}
use Rattle.stx_tree.specs.Measures.{size}
use Rattle.eval_pattern.specs.Front.{tree_front}
use Rattle.eval_pattern.proofs.front.tree_front.Given as goal

abbrev pub invariant-more : goal.invariant-more
invariant-more l = tree_front l.limit l.elements l.rest ≡ tree_front l.limit l.fn.elements l.fn.tree

abbrev pub decreases-more : goal.decreases-more
decreases-more l = size l.rest
