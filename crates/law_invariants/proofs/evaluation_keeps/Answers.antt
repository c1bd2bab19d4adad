use Rattle.law_invariants.proofs.Families.{keeps}
use Rattle.law_invariants.proofs.evaluation_keeps.Goals as goal

pub returns : goal.returns
returns c = keeps
