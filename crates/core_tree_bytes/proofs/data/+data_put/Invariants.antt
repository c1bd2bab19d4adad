use Rattle.std.proofs.Common.{◌≡◌, ◌+◌, ◌*◌, ◌++◌, take, true}
use Rattle.std.specs.List.{flat_map, list_all}
use Rattle.core_codec.specs.Trees as spell
use Rattle.core_tree_bytes.proofs.data.+data_put.Given as goal

abbrev pub invariant-put_data-loop-datum : goal.invariant-put_data-loop-datum
invariant-put_data-loop-datum l = (l.out.items ≡ l.initial.out.items ++ flat_map (spell.datum l.room).put (take l.datum-index l.data)) × (list_all (spell.datum l.room).fits (take l.datum-index l.data) ≡ true)

abbrev pub decreases-put_datum : goal.decreases-put_datum
decreases-put_datum l = 16 * l.room

abbrev pub decreases-put_data : goal.decreases-put_data
decreases-put_data l = 16 * l.room + 1

abbrev pub decreases-put_list : goal.decreases-put_list
decreases-put_list l = 16 * l.room + 2

abbrev pub decreases-put_node : goal.decreases-put_node
decreases-put_node l = 16 * l.room + 3

abbrev pub decreases-put_level : goal.decreases-put_level
decreases-put_level l = 16 * l.room + 4
