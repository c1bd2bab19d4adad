use Rattle.std.proofs.Common.{◌≡◌, ◌++◌, length}
use Rattle.core_shapes.specs.Lists.{elements, tail_of}
use Rattle.core_shapes.proofs.lists.parts_of.Given as goal

abbrev pub invariant-loop-rest : goal.invariant-loop-rest
invariant-loop-rest l = (l.elements ++ elements l.rest ≡ elements l.form) × (tail_of l.rest ≡ tail_of l.form)

abbrev pub decreases-loop-rest : goal.decreases-loop-rest
decreases-loop-rest l = length (elements l.rest)
