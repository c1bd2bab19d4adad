use Rattle.std.proofs.Common.{[]}
use Rattle.law_templates.proofs.Renamed.{instance-renamed}
use Rattle.law_templates.proofs.laws.names_of_marks_are_free.Goals as goal

pub returns : goal.returns
returns c = λ r a binds t cells. instance-renamed r a binds t [] cells
