use Rattle.std.proofs.Common.{◌≡◌, drop}
use Rattle.eval_pattern.specs.Compile.{is_known}
use Rattle.eval_pattern.proofs.compile.is_known.Given as goal

abbrev pub invariant-loop-variable : goal.invariant-loop-variable
invariant-loop-variable l = is_known (drop l.variable-index l.variables) l.form ≡ is_known l.variables l.form
