use Rattle.law_reuse.proofs.Due.{kept_loaded, kept_stopped}
use Rattle.law_reuse.proofs.kept_entries_fit.Goals as goal

pub returns : goal.returns
returns c = record { loaded = kept_loaded; stopped = kept_stopped }
