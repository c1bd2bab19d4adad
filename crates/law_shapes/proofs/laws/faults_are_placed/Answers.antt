use Rattle.law_shapes.proofs.Places.{faults-are-placed}
use Rattle.law_shapes.proofs.laws.faults_are_placed.Goals as goal

pub returns : goal.returns
returns c = faults-are-placed
