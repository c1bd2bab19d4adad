use Rattle.law_run.proofs.GrownLemmas.{leave_others}
use Rattle.law_run.proofs.cached.runs_leave_others.Goals as goal

pub returns : goal.returns
returns c = leave_others
