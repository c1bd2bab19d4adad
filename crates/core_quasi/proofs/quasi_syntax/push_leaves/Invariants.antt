use Rattle.std.proofs.Common.{◌≡◌, length}
use Rattle.core_quasi.specs.QuasiSyntax.{leaves}
use Rattle.core_quasi.proofs.quasi_syntax.push_leaves.Given as goal

abbrev pub invariant-loop-form : goal.invariant-loop-form
invariant-loop-form l = leaves l.trees l.left l.inserts ≡ leaves l.initial.trees l.forms l.initial.inserts

abbrev pub decreases-loop-form : goal.decreases-loop-form
decreases-loop-form l = length l.left
