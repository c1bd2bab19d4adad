use Rattle.law_room.proofs.Limits.{limit-of-nesting}
use Rattle.law_room.proofs.laws.limit_of_nesting.Goals as goal

pub returns : goal.returns
returns c = limit-of-nesting
