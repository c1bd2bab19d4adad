use Rattle.law_levels.proofs.Levels.{core-is-bounded}
use Rattle.law_levels.proofs.laws.core_is_bounded.Goals as goal

pub returns : goal.returns
returns c = core-is-bounded
