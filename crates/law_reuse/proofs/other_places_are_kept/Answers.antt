use Rattle.law_reuse.proofs.OthersLemmas.{others_left}
use Rattle.law_reuse.proofs.other_places_are_kept.Goals as goal

pub returns : goal.returns
returns c = others_left
