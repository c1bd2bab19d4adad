use Rattle.std.proofs.Common.{length}
use Rattle.stx_object.proofs.wrap.Wrap.drop.Given as goal

abbrev pub decreases-loop-link : goal.decreases-loop-link
decreases-loop-link l = length l.self
