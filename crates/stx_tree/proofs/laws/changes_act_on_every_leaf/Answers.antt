use Rattle.stx_tree.proofs.LeafLaws.{contexts-changed, strip-changed}
use Rattle.stx_tree.proofs.laws.changes_act_on_every_leaf.Goals as goal

pub returns : goal.returns
returns c = record { leaves = contexts-changed; rest = strip-changed }
