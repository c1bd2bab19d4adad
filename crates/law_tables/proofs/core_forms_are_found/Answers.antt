use Rattle.law_tables.proofs.Forms.{found}
use Rattle.law_tables.proofs.core_forms_are_found.Goals as goal

pub returns : goal.returns
returns c = found
