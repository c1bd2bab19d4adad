use Rattle.std.proofs.Common.{◌≡◌, [], drop}
use Rattle.run_derived.specs.Derived.{trees}
use Rattle.run_derived.proofs.derived.trees.Given as goal

abbrev pub invariant-loop-datum : goal.invariant-loop-datum
invariant-loop-datum l = trees l.done (drop l.datum-index l.found) ≡ trees [] l.found
