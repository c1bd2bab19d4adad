use Rattle.law_eval.specs.MoreFuel.{LeftIsNotNeeded}
use Rattle.law_eval.proofs.Carried.{everywhere, left_is_not_needed}
use Rattle.law_eval.proofs.laws.what_is_left_was_not_needed.Goals as goal

pub returns : goal.returns
returns c = everywhere LeftIsNotNeeded left_is_not_needed
