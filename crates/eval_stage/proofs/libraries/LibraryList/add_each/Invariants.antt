use Rattle.std.proofs.Common.{◌≡◌, drop}
use Rattle.eval_stage.specs.Libraries.{with_libraries}
use Rattle.eval_stage.proofs.libraries.LibraryList.add_each.Given as goal

abbrev pub invariant-loop-library : goal.invariant-loop-library
invariant-loop-library l = with_libraries l.self (drop l.library-index l.libraries) ≡ with_libraries l.initial.self l.libraries
