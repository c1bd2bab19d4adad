use Rattle.std.proofs.Common.{◌≡◌, drop}
use Rattle.stx_frames.specs.Scope.{are_new}
use Rattle.stx_frames.proofs.joined.JoinedFrames.are_new.Given as goal

abbrev pub invariant-loop-row : goal.invariant-loop-row
invariant-loop-row l = are_new (drop l.row-index l.rows) l.self ≡ are_new l.rows l.self
