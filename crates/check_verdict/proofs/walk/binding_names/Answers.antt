use Rattle.std.proofs.Common.{sym}
use Rattle.check_verdict.proofs.Same.{listed, unlisted, same_init_names, no_init_names}
use Rattle.check_verdict.proofs.walk.binding_names.Goals as goal

pub returns-in-Some : goal.returns-in-Some
returns-in-Some c = let e = rw c.in-Some.is at c.as_list.ensures in rw (same_init_names (listed c.args.datum.now c.in-Some.items.now (sym e)) c.args.survey.now) c.init_names.ensures

pub returns-in-None : goal.returns-in-None
returns-in-None c = let e = rw c.in-None.is at c.as_list.ensures in no_init_names c.args.datum.now (unlisted c.args.datum.now (sym e)) c.args.survey.now
