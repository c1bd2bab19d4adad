use Rattle.std.proofs.Common.{arith}
use Rattle.eval_template.proofs.Sizes.{item_smaller}
use Rattle.expand_standing.proofs.patterns.+has.Goals as goal

pub has_item_variables-has_variables-requires : goal.has_item_variables-has_variables-requires
has_item_variables-has_variables-requires t c = rw c.item-item.is (grind (arith, item_smaller))
