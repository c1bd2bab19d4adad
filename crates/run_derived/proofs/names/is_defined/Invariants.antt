use Rattle.std.proofs.Common.{◌≡◌, drop}
use Rattle.run_derived.specs.Names.{is_defined}
use Rattle.run_derived.proofs.names.is_defined.Given as goal

abbrev pub invariant-loop-definition : goal.invariant-loop-definition
invariant-loop-definition l = is_defined l.number (drop l.definition-index l.definitions) ≡ is_defined l.number l.definitions
