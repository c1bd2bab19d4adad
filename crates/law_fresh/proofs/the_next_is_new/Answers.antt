use Rattle.law_fresh.proofs.Families.{next-is-new}
use Rattle.law_fresh.proofs.the_next_is_new.Goals as goal

pub returns : goal.returns
returns c = next-is-new
