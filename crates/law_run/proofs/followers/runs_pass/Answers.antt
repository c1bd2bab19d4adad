use Rattle.law_run.proofs.PassLemmas.{runs_pass}
use Rattle.law_run.proofs.followers.runs_pass.Goals as goal

pub returns : goal.returns
returns c = runs_pass
