use Rattle.std.proofs.Common.{◌≡◌, ◌++◌}
use Rattle.eval_stage.proofs.libraries.LibraryList.into_items.Given as goal

abbrev pub invariant-loop-library : goal.invariant-loop-library
invariant-loop-library l = l.list.items ++ l.library-iterator ≡ l.fn.self
