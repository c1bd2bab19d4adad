use Rattle.law_faults.proofs.Lines.{starts_are, start_faults_are}
use Rattle.law_faults.proofs.starts_are_marks_and_lines.Goals as goal

pub returns-clause-starts : goal.returns-clause-starts
returns-clause-starts c = starts_are

pub returns-clause-faults : goal.returns-clause-faults
returns-clause-faults c = start_faults_are
