use Rattle.law_eval.specs.MoreFuel.{MoreIsLeft}
use Rattle.law_eval.proofs.Carried.{everywhere, more_is_left}
use Rattle.law_eval.proofs.laws.more_fuel_gives_the_same.Goals as goal

pub returns : goal.returns
returns c = everywhere MoreIsLeft more_is_left
