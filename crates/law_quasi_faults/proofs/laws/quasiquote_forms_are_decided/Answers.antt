use Rattle.law_quasi_faults.proofs.Quotes.{quotes-are-decided}
use Rattle.law_quasi_faults.proofs.laws.quasiquote_forms_are_decided.Goals as goal

pub returns : goal.returns
returns c = quotes-are-decided
