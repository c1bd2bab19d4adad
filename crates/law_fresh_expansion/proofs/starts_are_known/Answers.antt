use Rattle.law_fresh_expansion.proofs.Recorded.{starts-known}
use Rattle.law_fresh_expansion.proofs.starts_are_known.Goals as goal

pub returns : goal.returns
returns c = starts-known
