use Rattle.law_expand_faults.proofs.Uses.{uses-too-many}
use Rattle.law_expand_faults.proofs.laws.uses_too_many_are_told.Goals as goal

pub returns : goal.returns
returns c = uses-too-many
