use Rattle.std.proofs.Common.{◌≡◌, drop, map}
use Rattle.base_data.specs.Act.{each}
use Rattle.expand_quasi.specs.Inserted.{insert_variable, insert_variables}
use Rattle.expand_quasi.proofs.inserted.insert_variables.Given as goal

abbrev pub invariant-loop-insert : goal.invariant-loop-insert
invariant-loop-insert g l = each insert_variable l.done (map (λ i. i) (drop l.insert-index l.inserts)) l.state ≡ insert_variables l.inserts l.fn.state
