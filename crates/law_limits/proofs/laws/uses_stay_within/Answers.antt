use Rattle.law_limits.proofs.Limits.{uses-stay}
use Rattle.law_limits.proofs.laws.uses_stay_within.Goals as goal

pub returns : goal.returns
returns c = uses-stay
