use Rattle.std.proofs.Common.{◌≡◌, drop}
use Rattle.eval_stage.specs.Libraries.{has_all}
use Rattle.eval_stage.proofs.libraries.LibraryList.has_all.Given as goal

abbrev pub invariant-loop-library : goal.invariant-loop-library
invariant-loop-library l = has_all l.self (drop l.library-index l.others) ≡ has_all l.self l.others
