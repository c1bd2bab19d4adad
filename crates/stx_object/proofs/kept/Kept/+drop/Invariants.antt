use Rattle.std.proofs.Common.{◌≤◌}
use Rattle.stx_object.specs.Kept.{weight}
use Rattle.stx_object.proofs.kept.Kept.+drop.Given as goal

abbrev pub decreases-drop : goal.decreases-drop
decreases-drop l = goal.size-drop l

abbrev pub invariant-loop-node : goal.invariant-loop-node
invariant-loop-node l = weight l.self ≤ weight l.initial.self

abbrev pub decreases-loop-node : goal.decreases-loop-node
decreases-loop-node l = weight l.self
