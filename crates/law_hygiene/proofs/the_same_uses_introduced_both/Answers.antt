use Rattle.law_hygiene.proofs.Living.{by_same_uses}
use Rattle.law_hygiene.proofs.the_same_uses_introduced_both.Goals as goal

pub returns : goal.returns
returns c = by_same_uses
