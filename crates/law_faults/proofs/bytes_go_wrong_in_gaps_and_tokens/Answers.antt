use Rattle.law_faults.proofs.TokenFaults.{faults_are, one_fault}
use Rattle.law_faults.proofs.bytes_go_wrong_in_gaps_and_tokens.Goals as goal

pub returns-clause-faults : goal.returns-clause-faults
returns-clause-faults c = faults_are

pub returns-clause-one : goal.returns-clause-one
returns-clause-one c = one_fault
