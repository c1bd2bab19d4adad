use Rattle.law_names.proofs.Reading.{names_read}
use Rattle.law_names.proofs.names_are_read_as_themselves.Goals as goal

pub returns : goal.returns
returns c = names_read
