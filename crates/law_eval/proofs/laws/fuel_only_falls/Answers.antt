use Rattle.law_eval.specs.MoreFuel.{FuelFalls}
use Rattle.law_eval.proofs.Carried.{everywhere, fuel_falls}
use Rattle.law_eval.proofs.laws.fuel_only_falls.Goals as goal

pub returns : goal.returns
returns c = everywhere FuelFalls fuel_falls
