use Rattle.law_references.proofs.Recording.{records-hygienic}
use Rattle.law_references.proofs.records_are_hygienic.Goals as goal

pub returns : goal.returns
returns c = records-hygienic
