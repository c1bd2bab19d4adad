use Rattle.law_eval_faults.proofs.Read.{outputs-are-read}
use Rattle.law_eval_faults.proofs.laws.outputs_are_syntax.Goals as goal

pub returns : goal.returns
returns c = outputs-are-read
