use Rattle.law_identifiers.proofs.Identifiers.{they-stay}
use Rattle.law_identifiers.proofs.identifiers_stay.Goals as goal

pub returns : goal.returns
returns c = they-stay
