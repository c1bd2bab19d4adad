use Rattle.law_references.proofs.Answering.{one-answer}
use Rattle.law_references.proofs.relation_has_one_answer.Goals as goal

pub returns : goal.returns
returns c = one-answer
