use Rattle.std.proofs.Common.{◌≡◌, map, take}
use Rattle.expand_quasi.specs.Inserted.{insert_pattern}
use Rattle.expand_quasi.proofs.inserted.insert_patterns.Given as goal

abbrev pub invariant-loop-variable : goal.invariant-loop-variable
invariant-loop-variable l = l.done.items ≡ map insert_pattern (take l.variable-index l.variables)
