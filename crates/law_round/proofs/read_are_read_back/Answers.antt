use Rattle.law_round.proofs.Reading.{read_is_read_back}
use Rattle.law_round.proofs.read_are_read_back.Goals as goal

pub returns : goal.returns
returns c = read_is_read_back
