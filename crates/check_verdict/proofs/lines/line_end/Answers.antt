use Rattle.check_verdict.proofs.LineEnds.{found}
use Rattle.check_verdict.proofs.lines.line_end.Goals as goal

pub returns-clause-place : goal.returns-clause-place
returns-clause-place c = found c.args.bytes.now c.memchr.result c.memchr.ensures
