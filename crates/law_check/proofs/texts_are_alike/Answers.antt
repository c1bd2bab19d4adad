use Rattle.law_check.proofs.Alike.{alike}
use Rattle.law_check.proofs.Ends.{text_has_no_end}
use Rattle.law_check.proofs.Lines.{texts_tell}
use Rattle.law_check.proofs.texts_are_alike.Goals as goal

pub returns : goal.returns
returns c = record { alike = alike; lines = text_has_no_end; told = texts_tell }
