use Rattle.std.proofs.Common.{◌≡◌, ◌-◌}
use Rattle.base_bytes.specs.Codec.{some_get, ◌then◌}
use Rattle.base_bytes.specs.Names.{label}
use Rattle.core_codec.specs.Records as spell
use Rattle.base_bytes.proofs.Loop.{with_front}
use Rattle.core_record_bytes.proofs.bindings.some_bindings.Given as goal

abbrev pub invariant-loop : goal.invariant-loop
invariant-loop l = with_front l.list.value.items (some_get (label then spell.binding).get (l.count - l.counter) l.rest) ≡ some_get (label then spell.binding).get l.count l.bytes
