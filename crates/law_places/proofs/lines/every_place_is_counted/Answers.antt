use Rattle.law_places.proofs.Counts.{place_counted}
use Rattle.law_places.proofs.lines.every_place_is_counted.Goals as goal

pub returns : goal.returns
returns c = place_counted
