use Rattle.std.proofs.Common.{◌≡◌, ◌≤◌, drop, length}
use Rattle.stx_frames.specs.Listed.{placed}
use Rattle.stx_frames.proofs.frames.FrameMap.places.Given as goal

abbrev pub invariant-loop-left : goal.invariant-loop-left
invariant-loop-left l = record {
  within : l.left ≤ length l.self;
  done : l.places.entries ≡ placed l.library (drop l.left l.self);
}

abbrev pub decreases-loop-left : goal.decreases-loop-left
decreases-loop-left l = l.left
