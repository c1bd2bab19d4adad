use Rattle.law_run.proofs.GrownLemmas.{quiet_honest}
use Rattle.law_run.proofs.cached.quiet_runs_are_honest.Goals as goal

pub returns : goal.returns
returns c = quiet_honest
