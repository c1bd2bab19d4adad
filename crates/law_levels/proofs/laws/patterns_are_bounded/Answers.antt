use Rattle.law_levels.proofs.Levels.{patterns-are-bounded}
use Rattle.law_levels.proofs.laws.patterns_are_bounded.Goals as goal

pub returns : goal.returns
returns c = patterns-are-bounded
