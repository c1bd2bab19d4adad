use Rattle.law_fresh_expansion.proofs.Recorded.{records-own}
use Rattle.law_fresh_expansion.proofs.records_have_own_marks.Goals as goal

pub returns : goal.returns
returns c = records-own
