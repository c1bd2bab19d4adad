use Rattle.std.proofs.Common.{◌≡◌, ◌++◌, ◌-◌}
use Rattle.run_derived.specs.Names.{names_from}
use Rattle.run_derived.proofs.names.names_of.Given as goal

abbrev pub invariant-loop-number : goal.invariant-loop-number
invariant-loop-number l = l.names ++ names_from l.definitions l.number (l.count - l.number) ≡ names_from l.definitions 0 l.count
