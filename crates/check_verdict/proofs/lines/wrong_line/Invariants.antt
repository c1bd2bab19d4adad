use Rattle.std.proofs.Common.{◌≡◌, ◌+◌, ◌≤◌, length}
use Rattle.check_verdict.specs.Lines.{lines_of, lines_on}
use Rattle.check_verdict.proofs.lines.wrong_line.Given as goal

abbrev pub invariant-loop-rest : goal.invariant-loop-rest
invariant-loop-rest l = (lines_on l.number (lines_of l.rest) l.survey ≡ lines_on 2 (lines_of l.lines) l.fn.survey) × (2 ≤ l.number) × (l.number + length l.rest ≤ 2 + length l.lines)

abbrev pub decreases-loop-rest : goal.decreases-loop-rest
decreases-loop-rest l = length l.rest
