use Rattle.law_core.proofs.RecordLemmas.{records_decide}
use Rattle.law_core.proofs.records_closed_is_decided.Goals as goal

pub returns : goal.returns
returns c = records_decide
