use Rattle.std.proofs.Common.{◌≡◌, length}
use Rattle.core_codec.specs.Records as spell
use Rattle.core_record_bytes.proofs.rows.rows_rise_on.Given as goal

abbrev pub invariant-loop-left : goal.invariant-loop-left
invariant-loop-left l = spell.rows_rise_on l.before l.left ≡ spell.rows_rise_on l.frame l.rows

abbrev pub decreases-loop-left : goal.decreases-loop-left
decreases-loop-left l = length l.left
