use Rattle.law_round.proofs.Lines.{lines_back}
use Rattle.law_round.proofs.lines_are_read_back.Goals as goal

pub returns : goal.returns
returns c = lines_back
