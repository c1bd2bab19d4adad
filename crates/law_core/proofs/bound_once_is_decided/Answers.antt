use Rattle.law_core.proofs.RecordLemmas.{bound_once_decides}
use Rattle.law_core.proofs.bound_once_is_decided.Goals as goal

pub returns : goal.returns
returns c = bound_once_decides
