use Rattle.std.proofs.Common.{◌≡◌, ◌++◌}
use Rattle.run_library.proofs.loaded.append.Given as goal

abbrev pub invariant-loop-link : goal.invariant-loop-link
invariant-loop-link l = l.all ≡ l.initial.all ++ l.yielded
