use Rattle.law_lists.proofs.RunLemmas.{list_tail, list_ref}
use Rattle.law_lists.proofs.laws.list_tail_leaves_the_rest.Goals as goal

pub returns : goal.returns
returns c = record { tail = λ cells xs rest x w r. list_tail cells w r; element = λ cells xs rest x y d w r e. list_ref cells w r e }
