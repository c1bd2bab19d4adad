use Rattle.law_fresh.proofs.Families.{were-there}
use Rattle.law_fresh.proofs.leaves_were_there.Goals as goal

pub returns : goal.returns
returns c = were-there
