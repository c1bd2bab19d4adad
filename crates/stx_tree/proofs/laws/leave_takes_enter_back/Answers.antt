use Rattle.stx_tree.proofs.TreeLaws.{leave-enter}
use Rattle.stx_tree.proofs.laws.leave_takes_enter_back.Goals as goal

pub returns : goal.returns
returns c = leave-enter
