use Rattle.stx_tree.proofs.TreeLaws.{changed-append}
use Rattle.stx_tree.proofs.laws.changes_compose.Goals as goal

pub returns : goal.returns
returns c = changed-append
