use Rattle.law_marks.proofs.Framed.{frames-alike}
use Rattle.law_marks.proofs.frames_keep_other_names.Goals as goal

pub returns : goal.returns
returns c = frames-alike
