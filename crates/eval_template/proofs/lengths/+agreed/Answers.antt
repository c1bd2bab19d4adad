use Rattle.std.proofs.Common.{arith}
use Rattle.eval_template.proofs.Sizes.{item_smaller}
use Rattle.eval_template.proofs.lengths.+agreed.Goals as goal

pub all_agreed-agreed-requires : goal.all_agreed-agreed-requires
all_agreed-agreed-requires t c = rw c.item-item.is (grind (arith, item_smaller))
