use Rattle.std.proofs.Common.{◌≡◌, take}
use Rattle.stx_tree.proofs.context.Context.share.Given as goal

abbrev pub invariant-loop-stamp : goal.invariant-loop-stamp
invariant-loop-stamp l = l.stamps.items ≡ take l.stamp-index l.stamp-items
