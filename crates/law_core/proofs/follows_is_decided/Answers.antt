use Rattle.law_core.proofs.FollowsLemmas.{follows_decides}
use Rattle.law_core.proofs.follows_is_decided.Goals as goal

pub returns : goal.returns
returns c = follows_decides
