use Rattle.law_round.proofs.Round.{read_back}
use Rattle.law_round.proofs.readable_are_read_back.Goals as goal

pub returns : goal.returns
returns c = read_back
