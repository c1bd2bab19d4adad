use Rattle.law_readable.proofs.Data.{readables-read}
use Rattle.law_readable.proofs.readables_are_read.Goals as goal

pub returns : goal.returns
returns c = readables-read
