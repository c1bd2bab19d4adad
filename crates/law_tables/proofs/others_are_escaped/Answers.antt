use Rattle.law_tables.proofs.Bytes.{others_escaped}
use Rattle.law_tables.proofs.others_are_escaped.Goals as goal

pub returns : goal.returns
returns c = others_escaped
