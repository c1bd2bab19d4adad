use Rattle.stx_scope.specs.Stands.{stands}
use Rattle.stx_scope.proofs.SameLaws.{is_for_decides}
use Rattle.stx_scope.proofs.laws.one_label_is_the_answer.Goals as goal

pub returns : goal.returns
returns c = λ fs t l. is_for_decides l (stands fs t)
