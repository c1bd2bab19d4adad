use Rattle.law_check.proofs.Verdicts.{verdicts_exact}
use Rattle.law_check.proofs.verdicts_are_exact.Goals as goal

pub returns : goal.returns
returns c = verdicts_exact c.verdicts_are_by_cases.ensures
