use Rattle.law_expand.proofs.Changes.{scope-stays}
use Rattle.law_expand.proofs.laws.scope_stays.Goals as goal

pub returns : goal.returns
returns c = scope-stays
