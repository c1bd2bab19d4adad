use Rattle.std.proofs.Common.{◌≡◌, ◌+◌, ◌*◌, [], drop}
use Rattle.core_quasi.specs.Plan.{quasis, quasi_size, quasis_size}
use Rattle.expand_quasi.specs.Filled.{all_filled}
use Rattle.expand_quasi.proofs.filled.+filled.Given as goal

abbrev pub invariant-all_filled-loop-part : goal.invariant-all_filled-loop-part
invariant-all_filled-loop-part l = all_filled l.done.items (quasis (drop l.part-index l.parts)) l.codes ≡ all_filled [] (quasis l.parts) l.initial.codes

abbrev pub decreases-filled : goal.decreases-filled
decreases-filled l = 2 * quasi_size l.quasi.now

abbrev pub decreases-all_filled : goal.decreases-all_filled
decreases-all_filled l = 2 * quasis_size (quasis l.parts.now) + 1
