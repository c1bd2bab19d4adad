use Rattle.law_check.proofs.NameWords.{variables_are_named}
use Rattle.law_check.proofs.variables_have_names.Goals as goal

pub returns : goal.returns
returns c = variables_are_named
