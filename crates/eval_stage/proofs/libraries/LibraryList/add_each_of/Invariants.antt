use Rattle.std.proofs.Common.{◌≡◌, drop}
use Rattle.eval_stage.specs.Libraries.{with_libraries_of}
use Rattle.eval_stage.proofs.libraries.LibraryList.add_each_of.Given as goal

abbrev pub invariant-loop-label : goal.invariant-loop-label
invariant-loop-label l = with_libraries_of l.self (drop l.label-index l.labels) ≡ with_libraries_of l.initial.self l.labels
