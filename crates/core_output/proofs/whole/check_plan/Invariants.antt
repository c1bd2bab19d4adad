use Rattle.std.proofs.Common.{◌≡◌, drop}
use Rattle.core_output.specs.Whole.{plan_checked}
use Rattle.core_output.proofs.whole.check_plan.Given as goal

abbrev pub invariant-loop-place : goal.invariant-loop-place
invariant-loop-place l = plan_checked l.records (drop l.place-index l.plan) ≡ plan_checked l.records l.plan
