use Rattle.law_reuse.proofs.Whole.{whole_loaded, whole_stopped}
use Rattle.law_reuse.proofs.a_cache_changes_nothing.Goals as goal

pub returns : goal.returns
returns c = record { loaded = whole_loaded; stopped = whole_stopped }
