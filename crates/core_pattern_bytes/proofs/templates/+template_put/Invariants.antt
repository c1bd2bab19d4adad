use Rattle.std.proofs.Common.{◌≡◌, ◌+◌, ◌*◌, ◌++◌, take, true}
use Rattle.std.specs.Prelude.{map}
use Rattle.std.specs.List.{flat_map, list_all}
use Rattle.base_bytes.specs.Codec.{u32, ◌then◌}
use Rattle.core_codec.specs.Code as spell
use Rattle.core_pattern_bytes.specs.Seen.{item_part}
use Rattle.core_pattern_bytes.proofs.templates.+template_put.Given as goal

abbrev pub invariant-put_all-loop-item : goal.invariant-put_all-loop-item
invariant-put_all-loop-item l = (l.out.items ≡ l.initial.out.items ++ flat_map (spell.template l.room then u32).put (map item_part (take l.item-index l.list))) × (list_all (spell.template l.room then u32).fits (map item_part (take l.item-index l.list)) ≡ true)

abbrev pub decreases-put_template : goal.decreases-put_template
decreases-put_template l = 16 * l.room

abbrev pub decreases-put_item : goal.decreases-put_item
decreases-put_item l = 16 * l.room + 1

abbrev pub decreases-put_all : goal.decreases-put_all
decreases-put_all l = 16 * l.room + 2

abbrev pub decreases-put_items : goal.decreases-put_items
decreases-put_items l = 16 * l.room + 3

abbrev pub decreases-put_list : goal.decreases-put_list
decreases-put_list l = 16 * l.room + 4

abbrev pub decreases-put_node : goal.decreases-put_node
decreases-put_node l = 16 * l.room + 5
