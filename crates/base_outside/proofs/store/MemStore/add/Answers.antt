use Rattle.std.proofs.Common.{ap}
use Rattle.base_outside.specs.Calls.{KeptMap}
use Rattle.base_outside.proofs.Pairs.{sets_on_ok}
use Rattle.base_outside.proofs.store.MemStore.add.Goals as goal

pub returns-clause-sets : goal.returns-clause-sets
returns-clause-sets c = sets_on_ok c.add_pair.result _ _ _ _ _ (ap (λ (kept : KeptMap). kept.contents) c.self.view_is) c.add_pair.ensures.ok
