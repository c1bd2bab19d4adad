use Rattle.std.proofs.Common.{◌≡◌, ◌-◌}
use Rattle.base_bytes.specs.Codec.{some_get}
use Rattle.core_codec.specs.Contexts as spell
use Rattle.base_bytes.proofs.Loop.{with_front}
use Rattle.core_tree_bytes.proofs.contexts.some_stamps.Given as goal

abbrev pub invariant-loop : goal.invariant-loop
invariant-loop l = with_front l.list.items (some_get (spell.stamp).get (l.count - l.counter) l.rest) ≡ some_get (spell.stamp).get l.count l.bytes
