use Rattle.law_faults.proofs.StringFaults.{string_faults_are}
use Rattle.law_faults.proofs.strings_go_wrong_at_elements.Goals as goal

pub returns : goal.returns
returns c = string_faults_are
