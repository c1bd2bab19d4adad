use Rattle.std.proofs.Common.{sym}
use Rattle.check_verdict.proofs.Same.{listed, same_line, by_no_list}
use Rattle.check_verdict.proofs.walk.line_form.Goals as goal

pub returns-in-Some : goal.returns-in-Some
returns-in-Some c = let e = rw c.in-Some.is at c.as_list.ensures in rw (same_line (listed c.args.datum.now c.in-Some.items.now (sym e)) c.args.survey.now) c.line_list.ensures

pub returns-in-None : goal.returns-in-None
returns-in-None c = let e = rw c.in-None.is at c.as_list.ensures in rw (by_no_list c.args.datum.now (sym e) c.args.survey.now) c.expression.ensures
