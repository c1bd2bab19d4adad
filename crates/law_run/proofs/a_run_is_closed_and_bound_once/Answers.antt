use Rattle.law_run.proofs.ClosedLemmas.{runs_are_closed_once}
use Rattle.law_run.proofs.a_run_is_closed_and_bound_once.Goals as goal

pub returns : goal.returns
returns c = runs_are_closed_once
