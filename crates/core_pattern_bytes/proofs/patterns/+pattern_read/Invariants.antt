use Rattle.std.proofs.Common.{◌≡◌, ◌-◌, ◌+◌, ◌*◌}
use Rattle.base_bytes.specs.Codec.{some_get}
use Rattle.core_codec.specs.Code as spell
use Rattle.base_bytes.proofs.Loop.{with_front}
use Rattle.core_pattern_bytes.proofs.patterns.+pattern_read.Given as goal

abbrev pub invariant-some_patterns-loop : goal.invariant-some_patterns-loop
invariant-some_patterns-loop l = with_front l.list.value.items (some_get (spell.pattern l.room).get (l.count - l.counter) l.rest) ≡ some_get (spell.pattern l.room).get l.count l.bytes

abbrev pub decreases-read : goal.decreases-read
decreases-read l = 16 * l.room

abbrev pub decreases-boxed_at : goal.decreases-boxed_at
decreases-boxed_at l = 16 * l.room + 1

abbrev pub decreases-some_patterns : goal.decreases-some_patterns
decreases-some_patterns l = 16 * l.room + 2

abbrev pub decreases-patterns_at : goal.decreases-patterns_at
decreases-patterns_at l = 16 * l.room + 3

abbrev pub decreases-some_repeated_at : goal.decreases-some_repeated_at
decreases-some_repeated_at l = 16 * l.room + 4

abbrev pub decreases-repeated_at : goal.decreases-repeated_at
decreases-repeated_at l = 16 * l.room + 5

abbrev pub decreases-elements_at : goal.decreases-elements_at
decreases-elements_at l = 16 * l.room + 6

abbrev pub decreases-read_list : goal.decreases-read_list
decreases-read_list l = 16 * l.room + 7

abbrev pub decreases-read_vector : goal.decreases-read_vector
decreases-read_vector l = 16 * l.room + 7

abbrev pub decreases-read_node : goal.decreases-read_node
decreases-read_node l = 16 * l.room + 8
