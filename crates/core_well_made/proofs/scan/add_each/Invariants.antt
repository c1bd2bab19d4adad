use Rattle.std.proofs.Common.{◌≡◌, ◌++◌, drop}
use Rattle.core_well_made.proofs.scan.add_each.Given as goal

abbrev pub invariant-loop-label : goal.invariant-loop-label
invariant-loop-label l = l.all ++ drop l.label-index l.labels ≡ l.initial.all ++ l.labels
