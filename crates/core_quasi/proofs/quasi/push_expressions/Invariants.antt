use Rattle.std.proofs.Common.{◌≡◌, ◌++◌}
use Rattle.core_quasi.specs.Quasi.{expressions}
use Rattle.core_quasi.proofs.quasi.push_expressions.Given as goal

abbrev pub invariant-loop-form : goal.invariant-loop-form
invariant-loop-form l = l.list ≡ l.initial.list ++ expressions l.yielded
