use Rattle.law_names.proofs.Reading.{names_apart}
use Rattle.law_names.proofs.names_stay_apart.Goals as goal

pub returns : goal.returns
returns c = names_apart
