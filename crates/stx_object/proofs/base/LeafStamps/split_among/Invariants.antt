use Rattle.std.proofs.Common.{◌≡◌, filter, length}
use Rattle.stx_object.specs.Among.{is_for}
use Rattle.stx_object.proofs.base.LeafStamps.split_among.Given as goal

abbrev pub invariant-loop-held : goal.invariant-loop-held
invariant-loop-held l = filter (is_for l.library l.frames) l.left ≡ filter (is_for l.library l.frames) l.self

abbrev pub decreases-loop-held : goal.decreases-loop-held
decreases-loop-held l = length l.left
