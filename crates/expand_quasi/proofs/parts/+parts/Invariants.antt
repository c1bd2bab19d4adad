use Rattle.std.proofs.Common.{◌≡◌, ◌+◌, ◌*◌, drop}
use Rattle.core_quasi.specs.Plan.{quasis, quasi_size, quasis_size}
use Rattle.expand_quasi.specs.Parts.{all_quasi_parts}
use Rattle.expand_quasi.proofs.parts.+parts.Given as goal

abbrev pub invariant-push_all_quasi-loop-quasi : goal.invariant-push_all_quasi-loop-quasi
invariant-push_all_quasi-loop-quasi l = all_quasi_parts l.form l.depth l.parts (quasis (drop l.quasi-index l.list)) ≡ all_quasi_parts l.form l.depth l.initial.parts (quasis l.list)

abbrev pub decreases-push_quasi : goal.decreases-push_quasi
decreases-push_quasi l = 2 * quasi_size l.quasi.now

abbrev pub decreases-push_all_quasi : goal.decreases-push_all_quasi
decreases-push_all_quasi l = 2 * quasis_size (quasis l.list.now) + 1
