use Rattle.law_levels.specs.Limits.{limits-of-entries}
use Rattle.law_levels.proofs.laws.limits_of_entries_are_written.Goals as goal

pub returns : goal.returns
returns c = limits-of-entries
