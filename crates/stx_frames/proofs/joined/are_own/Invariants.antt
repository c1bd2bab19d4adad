use Rattle.std.proofs.Common.{◌≡◌, drop}
use Rattle.stx_frames.specs.Given.{are_own}
use Rattle.stx_frames.specs.Needed.{parts_given}
use Rattle.stx_frames.proofs.joined.are_own.Given as goal

abbrev pub invariant-loop-row : goal.invariant-loop-row
invariant-loop-row l = are_own (drop l.row-index l.rows) (parts_given l.given) ≡ are_own l.rows (parts_given l.given)
