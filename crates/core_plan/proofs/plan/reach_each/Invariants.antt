use Rattle.std.proofs.Common.{◌≡◌, drop}
use Rattle.core_plan.specs.Work.{reach_each, work_of}
use Rattle.core_plan.proofs.plan.reach_each.Given as goal

abbrev pub invariant-loop-name : goal.invariant-loop-name
invariant-loop-name l = reach_each l.records (drop l.name-index l.names) (work_of l.progress) ≡ reach_each l.records l.names (work_of l.initial.progress)
