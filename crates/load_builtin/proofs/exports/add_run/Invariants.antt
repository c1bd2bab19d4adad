use Rattle.std.proofs.Common.{◌≡◌, ◌++◌, ◌-◌, map}
use Rattle.load_builtin.specs.Libraries.{in_a_row}
use Rattle.load_builtin.specs.Exports.{export}
use Rattle.load_builtin.proofs.exports.add_run.Given as goal

abbrev pub invariant-loop-number : goal.invariant-loop-number
invariant-loop-number l = l.names ++ map export (in_a_row l.number (l.number-end - l.number)) ≡ l.initial.names ++ map export (in_a_row l.fn.run.from (l.number-end - l.fn.run.from))
