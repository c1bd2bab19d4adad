use Rattle.law_links.proofs.Wholly.{binders-linked}
use Rattle.law_links.proofs.binders_are_linked.Goals as goal

pub returns : goal.returns
returns c = binders-linked
