use Rattle.law_eval_faults.proofs.Refused.{refusals-are-told}
use Rattle.law_eval_faults.proofs.laws.refusals_of_primitives_are_told.Goals as goal

pub returns : goal.returns
returns c = refusals-are-told
