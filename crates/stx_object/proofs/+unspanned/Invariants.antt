use Rattle.std.proofs.Common.{◌≡◌, ◌≤◌, ◌+◌, ◌*◌}
use Rattle.stx_tree.specs.Tree.{unspanned, chain}
use Rattle.stx_object.specs.Kept.{weight}
use Rattle.stx_object.proofs.+unspanned.Given as goal

abbrev pub decreases-kept::Kept::unspanned : goal.decreases-kept::Kept::unspanned
decreases-kept::Kept::unspanned l = 3 * weight l.self.now + 2

abbrev pub decreases-unspanned::unspanned_along : goal.decreases-unspanned::unspanned_along
decreases-unspanned::unspanned_along l = 3 * weight l.list.now + 1

abbrev pub decreases-kept::Kept::unspanned_end : goal.decreases-kept::Kept::unspanned_end
decreases-kept::Kept::unspanned_end l = 3 * weight l.self.now

abbrev pub invariant-unspanned::unspanned_along-loop-left : goal.invariant-unspanned::unspanned_along-loop-left
invariant-unspanned::unspanned_along-loop-left l = record {
  list : chain l.items.items (unspanned l.left) ≡ unspanned l.list;
  less : weight l.left ≤ weight l.list;
}

abbrev pub decreases-unspanned::unspanned_along-loop-left : goal.decreases-unspanned::unspanned_along-loop-left
decreases-unspanned::unspanned_along-loop-left l = weight l.left
