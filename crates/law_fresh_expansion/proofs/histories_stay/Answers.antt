use Rattle.law_fresh_expansion.proofs.Around.{histories-stay}
use Rattle.law_fresh_expansion.proofs.histories_stay.Goals as goal

pub returns : goal.returns
returns c = histories-stay
