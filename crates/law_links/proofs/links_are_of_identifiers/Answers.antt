use Rattle.law_links.proofs.Wholly.{links-of-identifiers}
use Rattle.law_links.proofs.links_are_of_identifiers.Goals as goal

pub returns : goal.returns
returns c = links-of-identifiers
