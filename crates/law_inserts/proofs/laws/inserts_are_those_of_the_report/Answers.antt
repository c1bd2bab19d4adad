use Rattle.law_inserts.proofs.Inserted.{inserts-are-told}
use Rattle.law_inserts.proofs.laws.inserts_are_those_of_the_report.Goals as goal

pub returns : goal.returns
returns c = inserts-are-told
