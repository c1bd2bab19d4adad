use Rattle.law_run.proofs.KnownLemmas.{runs_mention_the_known}
use Rattle.law_run.proofs.follow.runs_mention_the_known.Goals as goal

pub returns : goal.returns
returns c = runs_mention_the_known
