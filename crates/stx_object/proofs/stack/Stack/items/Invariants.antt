use Rattle.std.proofs.Common.{◌≡◌, ◌++◌, length, map}
use Rattle.stx_object.proofs.stack.Stack.items.Given as goal

abbrev pub invariant-loop-left : goal.invariant-loop-left
invariant-loop-left g l = map (λ x. x.now) l.items.items ++ l.left ≡ l.self

abbrev pub decreases-loop-left : goal.decreases-loop-left
decreases-loop-left g l = length l.left
