use Rattle.std.proofs.Common.{◌≡◌, ◌-◌}
use Rattle.base_bytes.specs.Codec.{some_get}
use Rattle.base_bytes.proofs.Loop.{with_front}
use Rattle.base_bytes.proofs.spelled.some_at.Given as goal

abbrev pub invariant-loop : goal.invariant-loop
invariant-loop g l = with_front l.list.items (some_get g.T.Spelled.codec.get (l.count - l.counter) l.rest) ≡ some_get g.T.Spelled.codec.get l.count l.bytes
