use Rattle.law_limit_expansion.proofs.Limits.{stay-within}
use Rattle.law_limit_expansion.proofs.laws.records_stay_within.Goals as goal

pub returns : goal.returns
returns c = stay-within
