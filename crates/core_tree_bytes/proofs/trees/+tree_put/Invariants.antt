use Rattle.std.proofs.Common.{◌≡◌, ◌+◌, ◌*◌, ◌++◌, take, true}
use Rattle.std.specs.List.{flat_map, list_all}
use Rattle.core_codec.specs.Trees as spell
use Rattle.core_tree_bytes.proofs.trees.+tree_put.Given as goal

abbrev pub invariant-put_trees-loop-tree : goal.invariant-put_trees-loop-tree
invariant-put_trees-loop-tree l = (l.out.items ≡ l.initial.out.items ++ flat_map (spell.tree l.room).put (take l.tree-index l.trees)) × (list_all (spell.tree l.room).fits (take l.tree-index l.trees) ≡ true)

abbrev pub decreases-put_tree : goal.decreases-put_tree
decreases-put_tree l = 16 * l.room

abbrev pub decreases-put_trees : goal.decreases-put_trees
decreases-put_trees l = 16 * l.room + 1

abbrev pub decreases-put_list : goal.decreases-put_list
decreases-put_list l = 16 * l.room + 2

abbrev pub decreases-put_parts : goal.decreases-put_parts
decreases-put_parts l = 16 * l.room + 3

abbrev pub decreases-put_level : goal.decreases-put_level
decreases-put_level l = 16 * l.room + 4
