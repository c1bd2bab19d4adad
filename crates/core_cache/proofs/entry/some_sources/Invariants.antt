use Rattle.std.proofs.Common.{◌≡◌, ◌-◌}
use Rattle.base_bytes.specs.Codec.{some_get}
use Rattle.core_cache.specs.Entry as spell
use Rattle.base_bytes.proofs.Loop.{with_front}
use Rattle.core_cache.proofs.entry.some_sources.Given as goal

abbrev pub invariant-loop : goal.invariant-loop
invariant-loop l = with_front l.list.items (some_get (spell.source).get (l.count - l.counter) l.rest) ≡ some_get (spell.source).get l.count l.bytes
