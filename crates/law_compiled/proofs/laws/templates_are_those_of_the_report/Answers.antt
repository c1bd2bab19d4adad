use Rattle.law_compiled.proofs.Templates.{others-are-bad-templates}
use Rattle.law_compiled.proofs.Compiled.{templates-are-compiled}
use Rattle.law_compiled.proofs.laws.templates_are_those_of_the_report.Goals as goal

pub returns : goal.returns
returns c = record { compiled = templates-are-compiled; others = others-are-bad-templates }
