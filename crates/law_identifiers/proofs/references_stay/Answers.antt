use Rattle.law_identifiers.proofs.Identifiers.{they-refer}
use Rattle.law_identifiers.proofs.references_stay.Goals as goal

pub returns : goal.returns
returns c = they-refer
