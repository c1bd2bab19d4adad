use Rattle.law_readable.proofs.Families.{readables-stay}
use Rattle.law_readable.proofs.readables_stay.Goals as goal

pub returns : goal.returns
returns c = readables-stay
