use Rattle.law_expand.proofs.Variables.{variables-indexed}
use Rattle.law_expand.proofs.laws.variables_have_indices.Goals as goal

pub returns : goal.returns
returns c = variables-indexed
