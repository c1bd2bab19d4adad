use Rattle.law_matches.proofs.Renamed.{same}
use Rattle.law_matches.proofs.laws.names_of_marks_are_free.Goals as goal

pub returns : goal.returns
returns c = λ r one fs cells p v s. same r one fs cells p v s
