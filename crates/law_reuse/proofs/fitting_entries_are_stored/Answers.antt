use Rattle.law_reuse.proofs.Exactly.{stored_exactly}
use Rattle.law_reuse.proofs.fitting_entries_are_stored.Goals as goal

pub returns : goal.returns
returns c = stored_exactly
