use Rattle.law_whole.proofs.Beginnings.{first_worlds_whole, one_is_whole}
use Rattle.law_whole.proofs.laws.whole_worlds_begin.Goals as goal

pub returns : goal.returns
returns c = record { first = first_worlds_whole; one = one_is_whole }
