use Rattle.law_expand.proofs.Behind.{records-follow}
use Rattle.law_expand.proofs.laws.records_follow.Goals as goal

pub returns : goal.returns
returns c = records-follow
