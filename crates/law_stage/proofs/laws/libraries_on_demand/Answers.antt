use Rattle.law_stage.proofs.Sweeping.{wanted_reached, reached_wanted, evaluated_in_order, stays_closed, reached_evaluated}
use Rattle.law_stage.proofs.laws.libraries_on_demand.Goals as goal

pub returns : goal.returns
returns c = record { reached = wanted_reached; wanted = reached_wanted; in_order = evaluated_in_order; closed = stays_closed; all = reached_evaluated }
