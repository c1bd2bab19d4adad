use Rattle.law_reuse.proofs.Whole.{failed_loaded}
use Rattle.law_reuse.proofs.all_but_failed_are_kept.Goals as goal

pub returns : goal.returns
returns c = λ base files roots path. failed_loaded files roots path base
