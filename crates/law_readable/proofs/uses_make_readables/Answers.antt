use Rattle.law_readable.proofs.Stages.{uses-make}
use Rattle.law_readable.proofs.uses_make_readables.Goals as goal

pub returns : goal.returns
returns c = uses-make
