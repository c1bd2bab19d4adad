use Rattle.law_quasi_faults.proofs.Syntaxes.{syntaxes-are-decided}
use Rattle.law_quasi_faults.proofs.laws.quasisyntax_forms_are_decided.Goals as goal

pub returns : goal.returns
returns c = syntaxes-are-decided
