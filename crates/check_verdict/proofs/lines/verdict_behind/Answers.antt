use Rattle.std.proofs.Common.{sym, ap}
use Rattle.check_verdict.proofs.lines.verdict_behind.Goals as goal
use Rattle.check_verdict.specs.Lines.{of_lines}

pub returns-in-Ok-Some : goal.returns-in-Ok-Some
returns-in-Ok-Some c = sym (ap of_lines (rw (c.in-Ok-Some.is, c.in-Ok-Some.field-0-is) at c.find_wrong_line.ensures))
