use Rattle.law_core.proofs.FollowingLemmas.{followers_closed}
use Rattle.law_core.proofs.followers_are_closed.Goals as goal

pub returns : goal.returns
returns c = followers_closed
