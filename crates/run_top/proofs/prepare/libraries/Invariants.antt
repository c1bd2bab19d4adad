use Rattle.std.proofs.Common.{◌≡◌, ◌++◌, map, drop}
use Rattle.run_top.specs.Whole.{told}
use Rattle.run_top.proofs.prepare.libraries.Given as goal

abbrev pub invariant-loop-place : goal.invariant-loop-place
invariant-loop-place l = l.all ++ map told (drop l.place l.loading.done) ≡ map told l.loading.done
