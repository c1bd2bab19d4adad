use Rattle.std.proofs.Common.{◌≡◌}
use Rattle.stx_tree.specs.Tree.{chain}
use Rattle.stx_tree.specs.Changes.{changed}
use Rattle.stx_object.specs.Kept.{weight, IsElements}
use Rattle.stx_object.proofs.kept.Kept.elements.Given as goal

abbrev pub invariant-loop-left : goal.invariant-loop-left
invariant-loop-left l = record {
  list : chain l.elements.items l.left ≡ changed l.wrap l.self;
  elements : IsElements l.left;
}

abbrev pub decreases-loop-left : goal.decreases-loop-left
decreases-loop-left l = weight l.left
