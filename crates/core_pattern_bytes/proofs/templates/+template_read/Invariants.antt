use Rattle.std.proofs.Common.{◌≡◌, ◌-◌, ◌+◌, ◌*◌}
use Rattle.std.specs.Prelude.{map}
use Rattle.base_bytes.specs.Codec.{some_get, u32, ◌then◌}
use Rattle.core_codec.specs.Code as spell
use Rattle.core_pattern_bytes.specs.Seen.{item_part}
use Rattle.base_bytes.proofs.Loop.{with_front}
use Rattle.core_pattern_bytes.proofs.templates.+template_read.Given as goal

abbrev pub invariant-some_items-loop : goal.invariant-some_items-loop
invariant-some_items-loop l = with_front (map item_part l.list.items) (some_get (spell.template l.room then u32).get (l.count - l.counter) l.rest) ≡ some_get (spell.template l.room then u32).get l.count l.bytes

abbrev pub decreases-template_at : goal.decreases-template_at
decreases-template_at l = 16 * l.room

abbrev pub decreases-item_at : goal.decreases-item_at
decreases-item_at l = 16 * l.room + 1

abbrev pub decreases-some_items : goal.decreases-some_items
decreases-some_items l = 16 * l.room + 2

abbrev pub decreases-all_at : goal.decreases-all_at
decreases-all_at l = 16 * l.room + 3

abbrev pub decreases-items_at : goal.decreases-items_at
decreases-items_at l = 16 * l.room + 4

abbrev pub decreases-list_at : goal.decreases-list_at
decreases-list_at l = 16 * l.room + 5

abbrev pub decreases-node_at : goal.decreases-node_at
decreases-node_at l = 16 * l.room + 6
