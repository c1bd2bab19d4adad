use Rattle.std.proofs.Common.{◌≡◌, ◌++◌, drop}
use Rattle.stx_frames.specs.Scope.{label_by}
use Rattle.stx_frames.specs.Right.{sizes_before}
use Rattle.stx_frames.proofs.kept.look.Given as goal

abbrev pub invariant-loop-stamp : goal.invariant-loop-stamp
invariant-loop-stamp l = record {
  symbol : l.key.symbol ≡ l.fn.symbol;
  label : label_by l.frames l.fn.symbol (drop l.stamp-index l.stamps) ≡ label_by l.frames l.fn.symbol l.stamps;
  sizes : l.sizes ++ sizes_before l.frames l.fn.symbol (drop l.stamp-index l.stamps) ≡ sizes_before l.frames l.fn.symbol l.stamps;
}
