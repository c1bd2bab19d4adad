use Rattle.law_references.proofs.Referring.{references-hygienic}
use Rattle.law_references.proofs.references_are_hygienic.Goals as goal

pub returns : goal.returns
returns c = references-hygienic
