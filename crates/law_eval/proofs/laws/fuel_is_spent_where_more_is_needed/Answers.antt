use Rattle.law_eval.specs.MoreFuel.{SpentWhereMoreIsNeeded}
use Rattle.law_eval.proofs.Carried.{everywhere, spent_where_needed}
use Rattle.law_eval.proofs.laws.fuel_is_spent_where_more_is_needed.Goals as goal

pub returns : goal.returns
returns c = everywhere SpentWhereMoreIsNeeded spent_where_needed
