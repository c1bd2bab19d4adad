use Rattle.read_lexer.proofs.BetweenLemmas.{gaps_are}
use Rattle.read_lexer.proofs.laws.gaps_are_whitespace_and_comments.Goals as goal

pub returns : goal.returns
returns c = gaps_are
