use Rattle.std.proofs.Common.{◌≡◌, ◌-◌, ◌+◌, ◌*◌}
use Rattle.base_bytes.specs.Codec.{some_get}
use Rattle.core_codec.specs.Trees as spell
use Rattle.base_bytes.proofs.Loop.{with_front}
use Rattle.core_tree_bytes.proofs.trees.+tree_read.Given as goal

abbrev pub invariant-some_trees-loop : goal.invariant-some_trees-loop
invariant-some_trees-loop l = with_front l.list.items (some_get (spell.tree l.room).get (l.count - l.counter) l.rest) ≡ some_get (spell.tree l.room).get l.count l.bytes

abbrev pub decreases-tree_at : goal.decreases-tree_at
decreases-tree_at l = 16 * l.room

abbrev pub decreases-some_trees : goal.decreases-some_trees
decreases-some_trees l = 16 * l.room + 1

abbrev pub decreases-trees_at : goal.decreases-trees_at
decreases-trees_at l = 16 * l.room + 2

abbrev pub decreases-list_at : goal.decreases-list_at
decreases-list_at l = 16 * l.room + 3

abbrev pub decreases-parts_at : goal.decreases-parts_at
decreases-parts_at l = 16 * l.room + 4

abbrev pub decreases-level_at : goal.decreases-level_at
decreases-level_at l = 16 * l.room + 5
