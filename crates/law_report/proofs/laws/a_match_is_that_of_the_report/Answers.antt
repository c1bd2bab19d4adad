use Rattle.law_report.proofs.Matching.{is-right}
use Rattle.law_report.proofs.laws.a_match_is_that_of_the_report.Goals as goal

pub returns : goal.returns
returns c = λ fs cells w p v h. is-right fs cells w p v h
