use Rattle.law_tables.proofs.Texts.{derived_written}
use Rattle.law_tables.proofs.derived_is_written.Goals as goal

pub returns : goal.returns
returns c = derived_written
