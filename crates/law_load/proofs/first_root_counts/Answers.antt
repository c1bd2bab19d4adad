use Rattle.law_load.proofs.RootLemmas.{stand_below, stand_below_until}
use Rattle.law_load.proofs.first_root_counts.Goals as goal

pub returns : goal.returns
returns c = record { libraries = stand_below; stopped = stand_below_until }
