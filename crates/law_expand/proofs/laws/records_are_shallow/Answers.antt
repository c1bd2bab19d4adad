use Rattle.law_expand.proofs.Shallow.{records-shallow}
use Rattle.law_expand.proofs.laws.records_are_shallow.Goals as goal

pub returns : goal.returns
returns c = records-shallow
