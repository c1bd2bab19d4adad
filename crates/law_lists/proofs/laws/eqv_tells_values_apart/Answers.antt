use Rattle.law_lists.proofs.SameLemmas.{same_is, same_itself, same_syntax}
use Rattle.law_lists.proofs.laws.eqv_tells_values_apart.Goals as goal

pub returns : goal.returns
returns c = record { apart = same_is; itself = same_itself; syntax = same_syntax }
