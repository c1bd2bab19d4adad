use Rattle.core_tree_bytes.proofs.Shapes.{rest_smaller}
use Rattle.core_tree_bytes.proofs.parts.list_of.Goals as goal

pub loop-left-smaller : goal.loop-left-smaller
loop-left-smaller c = rest_smaller c.in-Pair.item c.in-Pair.after c.loop-left.left (rw c.in-Pair.is at c.in_ok-item.ensures)
