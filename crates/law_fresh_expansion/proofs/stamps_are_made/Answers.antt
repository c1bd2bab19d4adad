use Rattle.law_fresh_expansion.proofs.Making.{are-made}
use Rattle.law_fresh_expansion.proofs.stamps_are_made.Goals as goal

pub returns : goal.returns
returns c = are-made
