use Rattle.law_run.proofs.Kept.{followers-keep-to}
use Rattle.law_run.proofs.followers.followers_keep_to.Goals as goal

pub returns : goal.returns
returns c = followers-keep-to
