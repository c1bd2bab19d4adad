use Rattle.std.proofs.Common.{◌≡◌, ◌++◌, drop}
use Rattle.stx_frames.specs.Rows.{rows_of}
use Rattle.stx_frames.specs.Listed.{rows_from}
use Rattle.stx_frames.proofs.table.put_first.Given as goal

abbrev pub invariant-loop-row : goal.invariant-loop-row
invariant-loop-row l = l.list.items ++ rows_from l.frame (rows_of (drop l.row-index l.rows)) ≡ l.initial.list.items ++ rows_from l.frame (rows_of l.rows)
