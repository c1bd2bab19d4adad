use Rattle.std.proofs.Common.{◌≡◌, drop}
use Rattle.stx_frames.specs.Rows.{label_in, rows_of}
use Rattle.stx_frames.proofs.table.find_among.Given as goal

abbrev pub invariant-loop-row : goal.invariant-loop-row
invariant-loop-row l = label_in (rows_of (drop l.row-index l.rows)) l.key.symbol l.key.marks ≡ label_in (rows_of l.rows) l.key.symbol l.key.marks
