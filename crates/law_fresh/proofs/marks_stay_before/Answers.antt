use Rattle.law_fresh.proofs.Families.{stay-before}
use Rattle.law_fresh.proofs.marks_stay_before.Goals as goal

pub returns : goal.returns
returns c = stay-before
