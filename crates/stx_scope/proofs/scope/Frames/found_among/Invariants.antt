use Rattle.std.proofs.Common.{◌≡◌, filter, length}
use Rattle.stx_frames.specs.Scope.{label_by}
use Rattle.stx_object.specs.Among.{is_for}
use Rattle.stx_scope.proofs.scope.Frames.found_among.Given as goal

abbrev pub invariant-loop-left : goal.invariant-loop-left
invariant-loop-left l = record {
  symbol : l.key.symbol ≡ l.symbol;
  left : label_by l.self l.symbol (filter (is_for l.library l.frames) l.left) ≡ label_by l.self l.symbol (filter (is_for l.library l.frames) l.stamps);
}

abbrev pub decreases-loop-left : goal.decreases-loop-left
decreases-loop-left l = length (filter (is_for l.library l.frames) l.left)
