use Rattle.law_matches.proofs.Sound.{rightly}
use Rattle.law_matches.proofs.laws.a_match_is_that_of_the_report.Goals as goal

pub returns : goal.returns
returns c = λ fs cells w p v h. rightly fs cells w p v h
