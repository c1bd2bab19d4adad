use Rattle.law_run.proofs.LinkedRuns.{texts-have-maps}
use Rattle.law_run.proofs.maps.a_text_has_a_map.Goals as goal

pub returns : goal.returns
returns c = texts-have-maps
