use Rattle.std.proofs.Common.{◌≡◌, ◌++◌, drop}
use Rattle.std.specs.List.{flat_map}
use Rattle.run_derived.specs.Names.{export_at}
use Rattle.run_derived.proofs.names.exports_of.Given as goal

abbrev pub invariant-loop-definition : goal.invariant-loop-definition
invariant-loop-definition l = l.exports ++ flat_map export_at (drop l.definition-index l.definitions) ≡ flat_map export_at l.definitions
