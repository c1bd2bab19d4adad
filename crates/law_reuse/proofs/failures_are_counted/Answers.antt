use Rattle.law_reuse.proofs.FailingLemmas.{counted}
use Rattle.law_reuse.proofs.failures_are_counted.Goals as goal

pub returns : goal.returns
returns c = counted
