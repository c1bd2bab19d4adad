use Rattle.std.proofs.Common.{◌≡◌, ◌-◌}
use Rattle.base_bytes.specs.Codec.{some_get}
use Rattle.core_codec.specs.Contexts.{frame_row}
use Rattle.base_bytes.proofs.Loop.{with_front}
use Rattle.core_record_bytes.proofs.rows.some_rows.Given as goal

abbrev pub invariant-loop : goal.invariant-loop
invariant-loop l = with_front l.list.items (some_get (frame_row).get (l.count - l.counter) l.rest) ≡ some_get (frame_row).get l.count l.bytes
