use Rattle.law_references.proofs.Wholly.{forms-hygienic}
use Rattle.law_references.proofs.forms_are_hygienic.Goals as goal

pub returns : goal.returns
returns c = forms-hygienic
