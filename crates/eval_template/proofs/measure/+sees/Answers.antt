use Rattle.std.proofs.Common.{arith}
use Rattle.eval_template.proofs.Sizes.{item_smaller}
use Rattle.eval_template.proofs.measure.+sees.Goals as goal

pub items_see-sees-requires : goal.items_see-sees-requires
items_see-sees-requires t c = rw c.item-item.is (grind (arith, item_smaller))
