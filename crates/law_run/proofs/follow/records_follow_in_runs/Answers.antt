use Rattle.law_run.proofs.FollowLemmas.{records_follow_in_runs}
use Rattle.law_run.proofs.follow.records_follow_in_runs.Goals as goal

pub returns : goal.returns
returns c = records_follow_in_runs
