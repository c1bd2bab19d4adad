use Rattle.law_round.proofs.Reading.{read_readable}
use Rattle.law_round.proofs.only_readable_are_read.Goals as goal

pub returns : goal.returns
returns c = read_readable
