use Rattle.std.proofs.Common.{◌≡◌, []}
use Rattle.std.specs.Vec.Iter.{into_iter_items}
use Rattle.core_well_made.specs.Sets.{once_behind}
use Rattle.core_well_made.proofs.once.come_once.Given as goal

abbrev pub invariant-loop-item : goal.invariant-loop-item
invariant-loop-item g l = once_behind g.T.PartialEq.eq l.set.keys (into_iter_items l.item-iterator) ≡ once_behind g.T.PartialEq.eq [] l.fn.items.items
