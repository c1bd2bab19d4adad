use Rattle.law_readable_expansion.proofs.Recorded.{records-stay}
use Rattle.law_readable_expansion.proofs.records_stay_readable.Goals as goal

pub returns : goal.returns
returns c = records-stay
