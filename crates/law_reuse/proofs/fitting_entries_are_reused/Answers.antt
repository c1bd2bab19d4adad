use Rattle.law_reuse.proofs.Due.{due_loaded, due_stopped}
use Rattle.law_reuse.proofs.fitting_entries_are_reused.Goals as goal

pub returns : goal.returns
returns c = record { loaded = λ base files roots path. due_loaded files roots path base; stopped = λ base files roots path. due_stopped files roots path base }
