use Rattle.law_run.proofs.LinkedRuns.{map-faults-are-faults}
use Rattle.law_run.proofs.maps.faults_of_maps_are_those_of_texts.Goals as goal

pub returns : goal.returns
returns c = map-faults-are-faults
