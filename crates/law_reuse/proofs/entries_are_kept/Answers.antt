use Rattle.law_reuse.proofs.Whole.{entries_loaded, entries_stopped}
use Rattle.law_reuse.proofs.entries_are_kept.Goals as goal

pub returns : goal.returns
returns c = record { loaded = λ base files roots path. entries_loaded files roots path base; stopped = λ base files roots path. entries_stopped files roots path base }
