use Rattle.law_matches.proofs.Complete.{single}
use Rattle.law_matches.proofs.laws.a_pattern_matches_in_one_way.Goals as goal

pub returns : goal.returns
returns c = λ fs cells w p v h bs cs m n x y. single fs cells w h x y
