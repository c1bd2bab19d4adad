use Rattle.check_verdict.proofs.Steps.{not_begun, begun}
use Rattle.check_verdict.proofs.lines.check_text.Goals as goal

pub returns-in-Some : goal.returns-in-Some
returns-in-Some c = begun c.args.bytes.now c.in-Some.lines.now c.check_lines.result c.in-Some.ensures.cases.0 c.in-Some.ensures.cases.1 c.check_lines.ensures

pub returns-in-None : goal.returns-in-None
returns-in-None c = not_begun c.args.bytes.now c.in-None.ensures.cases
