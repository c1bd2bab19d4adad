use Rattle.std.proofs.Common.{◌≡◌}
use Rattle.std.specs.Vec.Iter.{into_iter_items}
use Rattle.core_well_made.specs.Sets.{with_depths}
use Rattle.core_well_made.proofs.templates.DepthSet.add_each.Given as goal

abbrev pub invariant-loop-variable : goal.invariant-loop-variable
invariant-loop-variable l = with_depths l.self (into_iter_items l.variable-iterator) ≡ with_depths l.fn.self l.fn.variables
