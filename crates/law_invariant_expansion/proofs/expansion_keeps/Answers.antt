use Rattle.law_invariant_expansion.proofs.Families.{keeps}
use Rattle.law_invariant_expansion.proofs.expansion_keeps.Goals as goal

pub returns : goal.returns
returns c = keeps
