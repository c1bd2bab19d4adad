use Rattle.std.proofs.Common.{◌≡◌, ◌++◌, drop}
use Rattle.std.specs.String.{string_bytes}
use Rattle.core_output.specs.Whole.{plan_text}
use Rattle.core_output.proofs.whole.put_plan.Given as goal

abbrev pub invariant-loop-place : goal.invariant-loop-place
invariant-loop-place l = string_bytes l.out ++ plan_text l.records l.names (drop l.place-index l.plan) ≡ string_bytes l.initial.out ++ plan_text l.records l.names l.plan
