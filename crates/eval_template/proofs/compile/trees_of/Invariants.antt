use Rattle.std.proofs.Common.{◌≡◌}
use Rattle.eval_template.specs.Compile.{trees}
use Rattle.eval_template.proofs.compile.trees_of.Given as goal

abbrev pub invariant-loop-made : goal.invariant-loop-made
invariant-loop-made l = l.list.items ≡ trees l.yielded
