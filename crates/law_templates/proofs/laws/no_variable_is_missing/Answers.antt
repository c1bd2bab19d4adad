use Rattle.law_templates.proofs.Same.{nothing_missing}
use Rattle.law_templates.proofs.laws.no_variable_is_missing.Goals as goal

pub returns : goal.returns
returns c = λ a b binds t cells h. nothing_missing a b binds t cells h
