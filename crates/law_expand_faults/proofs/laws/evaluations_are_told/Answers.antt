use Rattle.law_expand_faults.proofs.Evaluations.{evaluations-are-told}
use Rattle.law_expand_faults.proofs.laws.evaluations_are_told.Goals as goal

pub returns : goal.returns
returns c = evaluations-are-told
