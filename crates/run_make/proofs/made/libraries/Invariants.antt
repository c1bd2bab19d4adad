use Rattle.std.proofs.Common.{◌≡◌, ◌++◌, ◌-◌}
use Rattle.run_make.specs.Made.{libraries, paths_of}
use Rattle.run_make.proofs.made.libraries.Given as goal

abbrev pub invariant-loop-number : goal.invariant-loop-number
invariant-loop-number l = paths_of l.files.items ++ libraries l.number (l.count - l.number) ≡ libraries 0 l.count
