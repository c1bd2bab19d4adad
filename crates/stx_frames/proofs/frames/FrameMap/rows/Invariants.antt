use Rattle.std.proofs.Common.{◌≡◌, ◌++◌, length}
use Rattle.stx_frames.specs.Listed.{joined, rows_in}
use Rattle.stx_frames.proofs.frames.FrameMap.rows.Given as goal

abbrev pub invariant-loop-number : goal.invariant-loop-number
invariant-loop-number l = l.rows.items ++ joined l.places.entries ≡ rows_in l.library l.self

abbrev pub decreases-loop-number : goal.decreases-loop-number
decreases-loop-number l = length l.places.entries
