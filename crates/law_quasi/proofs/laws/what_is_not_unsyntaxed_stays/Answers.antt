use Rattle.std.proofs.Common.{[], ap}
use Rattle.base_data.specs.Gives.{◌>>=◌}
use Rattle.std.specs.Prelude.{Ok}
use Rattle.core_quasi.specs.Quasi.{at_form}
use Rattle.core_quasi.specs.QuasiSyntax.{answer}
use Rattle.law_quasi.proofs.InsertQuiets.{quiet_stays}
use Rattle.law_quasi.proofs.laws.what_is_not_unsyntaxed_stays.Goals as goal

pub returns : goal.returns
returns c = λ w t form place h. ap (λ r. at_form form place r >>= λ p. Ok (answer p)) (quiet_stays w t 0 h [])
