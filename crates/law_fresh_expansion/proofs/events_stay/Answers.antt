use Rattle.law_fresh_expansion.proofs.Recorded.{events-stay}
use Rattle.law_fresh_expansion.proofs.events_stay.Goals as goal

pub returns : goal.returns
returns c = events-stay
