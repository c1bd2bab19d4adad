use Rattle.law_run.proofs.Kept.{followers-stand}
use Rattle.law_run.proofs.followers.followers_stand.Goals as goal

pub returns : goal.returns
returns c = followers-stand
