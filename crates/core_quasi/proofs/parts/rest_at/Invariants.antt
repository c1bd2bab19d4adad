use Rattle.std.proofs.Common.{◌≡◌}
use Rattle.core_quasi.specs.Parts.{rest_at}
use Rattle.core_quasi.proofs.parts.rest_at.Given as goal

abbrev pub invariant-loop-left : goal.invariant-loop-left
invariant-loop-left l = rest_at l.left l.rest ≡ rest_at l.count l.form

abbrev pub decreases-loop-left : goal.decreases-loop-left
decreases-loop-left l = l.left
