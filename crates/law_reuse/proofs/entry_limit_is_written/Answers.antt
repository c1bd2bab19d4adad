use Rattle.std.proofs.Common.{refl}
use Rattle.law_reuse.proofs.entry_limit_is_written.Goals as goal

pub returns : goal.returns
returns c = record { of_runs = refl; of_laws = refl }
