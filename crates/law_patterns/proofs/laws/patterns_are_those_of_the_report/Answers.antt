use Rattle.law_patterns.proofs.Patterns.{patterns-are-compiled, others-are-bad-patterns}
use Rattle.law_patterns.proofs.laws.patterns_are_those_of_the_report.Goals as goal

pub returns : goal.returns
returns c = record { compiled = patterns-are-compiled; others = others-are-bad-patterns }
