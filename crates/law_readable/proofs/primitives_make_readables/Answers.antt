use Rattle.law_readable.proofs.Families.{primitives-make}
use Rattle.law_readable.proofs.primitives_make_readables.Goals as goal

pub returns : goal.returns
returns c = primitives-make
