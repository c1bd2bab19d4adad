use Rattle.law_references.proofs.Capturing.{captures-hygienic}
use Rattle.law_references.proofs.captures_are_hygienic.Goals as goal

pub returns : goal.returns
returns c = captures-hygienic
