use Rattle.law_expand.proofs.Records.{records-good}
use Rattle.law_expand.proofs.laws.records_are_good.Goals as goal

pub returns : goal.returns
returns c = records-good
