use Rattle.law_tables.proofs.Forms.{written}
use Rattle.law_tables.proofs.core_forms_are_written.Goals as goal

pub returns : goal.returns
returns c = written
