use Rattle.std.proofs.Common.{◌≡◌, drop}
use Rattle.core_output.specs.Naming.{with_names}
use Rattle.core_output.proofs.names.VariableNames.add_all.Given as goal

abbrev pub invariant-loop-row : goal.invariant-loop-row
invariant-loop-row l = with_names l.self (drop l.row-index l.bindings) ≡ with_names l.initial.self l.bindings
