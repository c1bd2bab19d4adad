use Rattle.law_expand_faults.proofs.Identifiers.{identifiers-are-told}
use Rattle.law_expand_faults.proofs.laws.identifiers_are_told.Goals as goal

pub returns : goal.returns
returns c = identifiers-are-told
