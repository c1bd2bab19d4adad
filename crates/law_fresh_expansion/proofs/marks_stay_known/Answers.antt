use Rattle.law_fresh_expansion.proofs.Around.{stay-known}
use Rattle.law_fresh_expansion.proofs.marks_stay_known.Goals as goal

pub returns : goal.returns
returns c = stay-known
