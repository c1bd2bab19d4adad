use Rattle.law_run.proofs.OnceLemmas.{runs_name_once}
use Rattle.law_run.proofs.follow.runs_name_once.Goals as goal

pub returns : goal.returns
returns c = runs_name_once
