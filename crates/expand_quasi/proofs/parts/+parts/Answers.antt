use Rattle.std.proofs.Common.{arith}
use Rattle.expand_quasi.proofs.Sizes.{quasi_below}
use Rattle.expand_quasi.proofs.parts.+parts.Goals as goal

pub push_all_quasi-push_quasi-requires : goal.push_all_quasi-push_quasi-requires
push_all_quasi-push_quasi-requires t c = rw c.quasi-item.is (grind (arith, quasi_below))
