use Rattle.law_marks.proofs.All.{marks-are-names}
use Rattle.law_marks.proofs.marks_are_names.Goals as goal

pub returns : goal.returns
returns c = marks-are-names
