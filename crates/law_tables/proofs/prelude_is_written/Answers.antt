use Rattle.law_tables.proofs.Texts.{prelude_written}
use Rattle.law_tables.proofs.prelude_is_written.Goals as goal

pub returns : goal.returns
returns c = prelude_written
