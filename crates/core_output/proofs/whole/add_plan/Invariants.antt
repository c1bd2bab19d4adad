use Rattle.std.proofs.Common.{◌≡◌, drop}
use Rattle.core_output.specs.Whole.{plan_names}
use Rattle.core_output.proofs.whole.add_plan.Given as goal

abbrev pub invariant-loop-place : goal.invariant-loop-place
invariant-loop-place l = plan_names l.records l.names (drop l.place-index l.plan) ≡ plan_names l.records l.initial.names l.plan
