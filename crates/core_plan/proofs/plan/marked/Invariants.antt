use Rattle.std.proofs.Common.{◌≡◌, ◌++◌, drop}
use Rattle.core_plan.specs.Work.{marked_from}
use Rattle.core_plan.proofs.plan.marked.Given as goal

abbrev pub invariant-loop-place : goal.invariant-loop-place
invariant-loop-place l = l.plan.items ++ marked_from l.place (drop l.place l.marks) ≡ marked_from 0 l.marks
