use Rattle.stx_scope.specs.Same.{meaning}
use Rattle.stx_scope.proofs.SameLaws.{same_meaning_decides, same_binding_equiv}
use Rattle.stx_scope.proofs.laws.one_binding_is_one_meaning.Goals as goal

pub returns : goal.returns
returns c = record { meaning = λ fs a b. same_meaning_decides (meaning fs a) (meaning fs b); equivalence = same_binding_equiv }
