use Rattle.std.proofs.Common.{◌≡◌}
use Rattle.std.specs.Vec.Iter.{into_iter_items}
use Rattle.stx_frames.specs.Scope.{label_by}
use Rattle.stx_frames.proofs.joined.JoinedFrames.label_by.Given as goal

abbrev pub invariant-loop-stamp : goal.invariant-loop-stamp
invariant-loop-stamp l = record {
  symbol : l.key.symbol ≡ l.fn.symbol;
  left : label_by l.self l.fn.symbol (into_iter_items l.stamp-iterator) ≡ label_by l.self l.fn.symbol l.fn.stamps.items;
}
