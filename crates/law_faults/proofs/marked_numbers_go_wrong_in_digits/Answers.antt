use Rattle.law_faults.proofs.BareTexts.{marked_faults_are}
use Rattle.law_faults.proofs.marked_numbers_go_wrong_in_digits.Goals as goal

pub returns : goal.returns
returns c = marked_faults_are
