use Rattle.law_counts.proofs.Wholly.{counted-in-whole}
use Rattle.law_counts.proofs.laws.uses_are_counted_in_whole.Goals as goal

pub returns : goal.returns
returns c = counted-in-whole
