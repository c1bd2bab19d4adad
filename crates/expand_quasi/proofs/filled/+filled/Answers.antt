use Rattle.std.proofs.Common.{arith}
use Rattle.expand_quasi.proofs.Sizes.{quasi_below}
use Rattle.expand_quasi.proofs.filled.+filled.Goals as goal

pub all_filled-filled-requires : goal.all_filled-filled-requires
all_filled-filled-requires t c = rw c.part-item.is (grind (arith, quasi_below))
