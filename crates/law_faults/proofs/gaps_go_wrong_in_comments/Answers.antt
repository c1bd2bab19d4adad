use Rattle.law_faults.proofs.GapFaults.{gap_faults_are}
use Rattle.law_faults.proofs.gaps_go_wrong_in_comments.Goals as goal

pub returns : goal.returns
returns c = gap_faults_are
