use Rattle.law_whole.proofs.Beginnings.{broken_not_whole}
use Rattle.law_whole.proofs.laws.broken_worlds_are_not_whole.Goals as goal

pub returns : goal.returns
returns c = broken_not_whole
