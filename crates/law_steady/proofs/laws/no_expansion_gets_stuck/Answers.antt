use Rattle.law_steady.proofs.Libraries.{expansions_never_stuck}
use Rattle.law_steady.proofs.laws.no_expansion_gets_stuck.Goals as goal

pub returns : goal.returns
returns c = expansions_never_stuck
