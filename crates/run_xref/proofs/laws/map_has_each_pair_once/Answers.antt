use Rattle.run_xref.proofs.Order.{map-is-once}
use Rattle.run_xref.proofs.laws.map_has_each_pair_once.Goals as goal

pub returns : goal.returns
returns c = map-is-once
