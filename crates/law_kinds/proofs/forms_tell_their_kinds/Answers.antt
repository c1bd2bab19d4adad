use Rattle.law_kinds.proofs.Forms.{libraries-tell, programs-tell}
use Rattle.law_kinds.proofs.forms_tell_their_kinds.Goals as goal

pub returns : goal.returns
returns c = record { libraries = libraries-tell; programs = programs-tell }
