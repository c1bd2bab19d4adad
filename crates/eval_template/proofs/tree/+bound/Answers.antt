use Rattle.std.proofs.Common.{arith}
use Rattle.eval_template.proofs.Sizes.{item_smaller}
use Rattle.eval_template.proofs.tree.+bound.Goals as goal

pub all_items_bound-all_bound-requires : goal.all_items_bound-all_bound-requires
all_items_bound-all_bound-requires t c = rw c.item-item.is (grind (arith, item_smaller))
