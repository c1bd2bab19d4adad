use Rattle.std.proofs.Common.{arith}
use Rattle.core_well_made.proofs.Sizes.{item_smaller}
use Rattle.expand_follows.proofs.closed.+instance.Goals as goal

pub are_items_closed-is_instance_closed-requires : goal.are_items_closed-is_instance_closed-requires
are_items_closed-is_instance_closed-requires t c = rw c.item-item.is (grind (arith, item_smaller))
