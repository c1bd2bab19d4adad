use Rattle.stx_tree.specs.Leaves.{stamps_of}
use Rattle.stx_scope.specs.Stands.{symbol_of}
use Rattle.law_hygiene.proofs.Rowing.{by_a_stamp}
use Rattle.law_hygiene.proofs.Using.{binder_of-label}
use Rattle.law_hygiene.proofs.binders_have_the_marks_of_a_stamp.Goals as goal

pub returns : goal.returns
returns c = record { label = binder_of-label; by_a_stamp = λ fs t r h. by_a_stamp fs (symbol_of t) (stamps_of t) r h }
