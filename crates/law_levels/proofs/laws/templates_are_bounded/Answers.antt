use Rattle.law_levels.proofs.Levels.{templates-are-bounded}
use Rattle.law_levels.proofs.laws.templates_are_bounded.Goals as goal

pub returns : goal.returns
returns c = templates-are-bounded
