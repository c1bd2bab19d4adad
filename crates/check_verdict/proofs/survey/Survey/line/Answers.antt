use Rattle.check_verdict.proofs.Steps.{line_stops, line_goes}
use Rattle.check_verdict.proofs.survey.Survey.line.Goals as goal

pub returns-in-Ok : goal.returns-in-Ok
returns-in-Ok c = line_goes c.args.line.now c.args.self.now c.data.new.self c.in-Ok.data c.data.result c.in-Ok.ensures (rw c.deref.ensures.value at c.data.ensures)

pub returns-in-Err : goal.returns-in-Err
returns-in-Err c = line_stops c.args.line.now c.args.self.now c.args.self.now c.in-Err.halt c.in-Err.ensures
