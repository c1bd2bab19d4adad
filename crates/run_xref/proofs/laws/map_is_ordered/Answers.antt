use Rattle.run_xref.proofs.Order.{map-is-ordered}
use Rattle.run_xref.proofs.laws.map_is_ordered.Goals as goal

pub returns : goal.returns
returns c = map-is-ordered
