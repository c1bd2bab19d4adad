use Rattle.std.proofs.Common.{◌≡◌, drop}
use Rattle.core_output.specs.Syntax.{lines_checked}
use Rattle.core_output.proofs.check.check_lines.Given as goal

abbrev pub invariant-loop-line : goal.invariant-loop-line
invariant-loop-line l = lines_checked (drop l.line-index l.lines) ≡ lines_checked l.lines
