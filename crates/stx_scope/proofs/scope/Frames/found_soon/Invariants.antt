use Rattle.std.proofs.Common.{◌≡◌}
use Rattle.stx_frames.specs.Scope.{label_by}
use Rattle.stx_scope.proofs.scope.Frames.found_soon.Given as goal

abbrev pub invariant-loop : goal.invariant-loop
invariant-loop l = record {
  symbol : l.key.symbol ≡ l.symbol;
  left : label_by l.self l.symbol l.left ≡ label_by l.self l.symbol l.stamps;
}
