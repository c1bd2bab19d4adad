use Rattle.std.proofs.Common.{◌≡◌, ◌+◌, ◌*◌, ◌++◌, take, true}
use Rattle.std.specs.List.{flat_map, list_all}
use Rattle.core_codec.specs.Code as spell
use Rattle.core_pattern_bytes.proofs.patterns.+pattern_put.Given as goal

abbrev pub invariant-put_patterns-loop-pattern : goal.invariant-put_patterns-loop-pattern
invariant-put_patterns-loop-pattern l = (l.out.items ≡ l.initial.out.items ++ flat_map (spell.pattern l.room).put (take l.pattern-index l.patterns)) × (list_all (spell.pattern l.room).fits (take l.pattern-index l.patterns) ≡ true)

abbrev pub decreases-put_pattern : goal.decreases-put_pattern
decreases-put_pattern l = 16 * l.room

abbrev pub decreases-put_patterns : goal.decreases-put_patterns
decreases-put_patterns l = 16 * l.room + 1

abbrev pub decreases-put_repeated : goal.decreases-put_repeated
decreases-put_repeated l = 16 * l.room + 2

abbrev pub decreases-put_elements : goal.decreases-put_elements
decreases-put_elements l = 16 * l.room + 3

abbrev pub decreases-put_list : goal.decreases-put_list
decreases-put_list l = 16 * l.room + 4

abbrev pub decreases-put_node : goal.decreases-put_node
decreases-put_node l = 16 * l.room + 5
