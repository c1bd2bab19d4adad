use Rattle.law_run.proofs.Kept.{followers-keep-together}
use Rattle.law_run.proofs.followers.followers_keep_together.Goals as goal

pub returns : goal.returns
returns c = followers-keep-together
