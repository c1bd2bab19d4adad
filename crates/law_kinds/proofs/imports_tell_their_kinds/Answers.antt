use Rattle.law_kinds.proofs.Imports.{imports-tell, joins-tell}
use Rattle.law_kinds.proofs.imports_tell_their_kinds.Goals as goal

pub returns : goal.returns
returns c = record { sets = imports-tell; joins = joins-tell }
