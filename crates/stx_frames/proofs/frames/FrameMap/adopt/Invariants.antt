use Rattle.std.proofs.Common.{◌≡◌, ◌≤◌, length, take, drop, true}
use Rattle.stx_frames.specs.Scope.{adopted, are_new}
use Rattle.stx_frames.proofs.frames.FrameMap.adopt.Given as goal

abbrev pub invariant-loop-row : goal.invariant-loop-row
invariant-loop-row l = record {
  done : adopted l.self (drop l.row-index l.rows) ≡ adopted l.fn.self l.rows;
  front : take (length l.fn.self) l.self ≡ l.fn.self;
  grown : length l.fn.self ≤ length l.self;
  fresh : are_new (drop l.row-index l.rows) l.fn.self ≡ true;
}
