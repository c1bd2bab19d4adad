use Rattle.std.proofs.Common.{◌≡◌, ◌-◌, ◌+◌, ◌*◌}
use Rattle.base_bytes.specs.Codec.{some_get}
use Rattle.core_codec.specs.Trees as spell
use Rattle.base_bytes.proofs.Loop.{with_front}
use Rattle.core_tree_bytes.proofs.data.+data_read.Given as goal

abbrev pub invariant-some_data-loop : goal.invariant-some_data-loop
invariant-some_data-loop l = with_front l.list.items (some_get (spell.datum l.room).get (l.count - l.counter) l.rest) ≡ some_get (spell.datum l.room).get l.count l.bytes

abbrev pub decreases-datum_at : goal.decreases-datum_at
decreases-datum_at l = 16 * l.room

abbrev pub decreases-some_data : goal.decreases-some_data
decreases-some_data l = 16 * l.room + 1

abbrev pub decreases-data_at : goal.decreases-data_at
decreases-data_at l = 16 * l.room + 2

abbrev pub decreases-list_at : goal.decreases-list_at
decreases-list_at l = 16 * l.room + 3

abbrev pub decreases-node_at : goal.decreases-node_at
decreases-node_at l = 16 * l.room + 4

abbrev pub decreases-level_at : goal.decreases-level_at
decreases-level_at l = 16 * l.room + 5
