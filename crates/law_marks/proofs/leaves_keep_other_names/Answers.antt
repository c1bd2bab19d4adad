use Rattle.law_marks.proofs.All.{leaves-alike}
use Rattle.law_marks.proofs.leaves_keep_other_names.Goals as goal

pub returns : goal.returns
returns c = leaves-alike
