use Rattle.law_quasi.proofs.Means.{plan_means}
use Rattle.law_quasi.proofs.laws.a_plan_makes_the_filled_template.Goals as goal

pub returns : goal.returns
returns c = λ w f t n q e. plan_means w f t n q e
