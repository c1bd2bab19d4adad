use Rattle.law_templates.proofs.Measuring.{measure_tells}
use Rattle.law_templates.proofs.laws.what_is_measured_is_what_it_costs.Goals as goal

pub returns : goal.returns
returns c = λ a binds t cells. measure_tells a binds t cells
