use Rattle.law_core.proofs.ScopeLemmas.{closed_decides}
use Rattle.law_core.proofs.closed_is_decided.Goals as goal

pub returns : goal.returns
returns c = closed_decides
