use Rattle.std.proofs.Common.{◌≡◌, ◌++◌, drop}
use Rattle.stx_frames.specs.Rows.{rows_of}
use Rattle.stx_frames.specs.Listed.{rows_from}
use Rattle.stx_frames.proofs.table.put_later.Given as goal

abbrev pub invariant-loop-i : goal.invariant-loop-i
invariant-loop-i l = l.list.items ++ rows_from l.frame (drop l.i (rows_of l.rows.entries)) ≡ l.initial.list.items ++ rows_from l.frame (rows_of l.rows.entries)
