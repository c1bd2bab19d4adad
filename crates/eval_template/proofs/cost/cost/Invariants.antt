use Rattle.std.proofs.Common.{◌≡◌, ◌+◌, ◌-◌, drop, length}
use Rattle.eval_template.specs.Cost.{cost}
use Rattle.eval_template.proofs.cost.cost.Given as goal

abbrev pub invariant-loop-cell : goal.invariant-loop-cell
invariant-loop-cell l = l.sum + cost (drop l.at l.cells.list) ≡ cost (drop l.from l.cells.list)

abbrev pub decreases-loop-cell : goal.decreases-loop-cell
decreases-loop-cell l = length l.cells.list - l.at
