use Rattle.law_names.proofs.Telling.{names_tell}
use Rattle.law_names.proofs.names_tell_variables.Goals as goal

pub returns : goal.returns
returns c = names_tell
