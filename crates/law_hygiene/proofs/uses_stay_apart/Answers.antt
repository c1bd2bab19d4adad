use Rattle.law_hygiene.proofs.Using.{two_uses}
use Rattle.law_hygiene.proofs.uses_stay_apart.Goals as goal

pub returns : goal.returns
returns c = two_uses
