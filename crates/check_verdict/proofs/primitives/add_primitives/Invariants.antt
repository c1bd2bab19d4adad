use Rattle.check_verdict.specs.Names.{ArePrimitives}
use Rattle.check_verdict.proofs.primitives.add_primitives.Given as goal

abbrev pub invariant-loop-text : goal.invariant-loop-text
invariant-loop-text l = ArePrimitives l.names
