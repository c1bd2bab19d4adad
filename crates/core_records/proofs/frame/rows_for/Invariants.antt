use Rattle.std.proofs.Common.{◌≡◌, take, map}
use Rattle.core_records.specs.Frame.{core_row}
use Rattle.core_records.proofs.frame.rows_for.Given as goal

abbrev pub invariant-loop-number : goal.invariant-loop-number
invariant-loop-number l = l.rows.items ≡ map core_row (take l.number-index l.numbers)
