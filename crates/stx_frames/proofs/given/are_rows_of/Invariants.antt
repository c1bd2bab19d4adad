use Rattle.std.proofs.Common.{◌≡◌, drop}
use Rattle.stx_frames.specs.Given.{are_rows_of}
use Rattle.stx_frames.proofs.given.are_rows_of.Given as goal

abbrev pub invariant-loop-row : goal.invariant-loop-row
invariant-loop-row l = are_rows_of l.library (drop l.row-index l.rows) ≡ are_rows_of l.library l.rows
