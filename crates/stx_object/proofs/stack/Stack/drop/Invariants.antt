use Rattle.std.proofs.Common.{length}
use Rattle.stx_object.proofs.stack.Stack.drop.Given as goal

abbrev pub decreases-loop-level : goal.decreases-loop-level
decreases-loop-level g l = length l.self
