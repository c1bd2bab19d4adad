use Rattle.law_expand_faults.proofs.Bindings.{bindings-are-told}
use Rattle.law_expand_faults.proofs.laws.bindings_are_told.Goals as goal

pub returns : goal.returns
returns c = bindings-are-told
