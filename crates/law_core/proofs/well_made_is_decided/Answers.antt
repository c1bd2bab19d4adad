use Rattle.law_core.proofs.WellMadeLemmas.{well_made_decides}
use Rattle.law_core.proofs.well_made_is_decided.Goals as goal

pub returns : goal.returns
returns c = well_made_decides
