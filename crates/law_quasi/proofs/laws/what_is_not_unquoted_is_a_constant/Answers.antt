use Rattle.law_quasi.proofs.Quiets.{quiet_constant}
use Rattle.law_quasi.proofs.laws.what_is_not_unquoted_is_a_constant.Goals as goal

pub returns : goal.returns
returns c = λ w t n h. quiet_constant w t n h
