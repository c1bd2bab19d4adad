use Rattle.std.proofs.Common.{◌≡◌, length}
use Rattle.stx_frames.specs.Right.{same_sizes}
use Rattle.stx_frames.proofs.kept.have_sizes.Given as goal

abbrev pub invariant-loop-size : goal.invariant-loop-size
invariant-loop-size l = same_sizes l.frames l.stamps l.sizes ≡ same_sizes l.frames l.fn.stamps l.fn.sizes

abbrev pub decreases-loop-size : goal.decreases-loop-size
decreases-loop-size l = length l.sizes
