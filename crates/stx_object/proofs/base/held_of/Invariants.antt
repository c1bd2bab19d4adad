use Rattle.std.proofs.Common.{◌≡◌, ◌++◌}
use Rattle.std.specs.Prelude.{vec_len}
use Rattle.stx_object.proofs.base.held_of.Given as goal

abbrev pub invariant-loop-stamp : goal.invariant-loop-stamp
invariant-loop-stamp l = l.left.items ++ l.stack ≡ l.fn.stamps.items

abbrev pub decreases-loop-stamp : goal.decreases-loop-stamp
decreases-loop-stamp l = vec_len l.left
