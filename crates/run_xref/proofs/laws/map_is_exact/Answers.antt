use Rattle.run_xref.proofs.Relation.{map-is-exact}
use Rattle.run_xref.proofs.laws.map_is_exact.Goals as goal

pub returns : goal.returns
returns c = map-is-exact
