use Rattle.law_local.proofs.BehindLemmas.{those_of_runs}
use Rattle.law_local.proofs.records_are_those_of_runs.Goals as goal

pub returns : goal.returns
returns c = λ base. those_of_runs base
