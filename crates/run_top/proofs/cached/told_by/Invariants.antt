use Rattle.std.proofs.Common.{◌≡◌, ◌++◌, drop}
use Rattle.run_top.specs.Cached.{told_from}
use Rattle.run_top.proofs.cached.told_by.Given as goal

abbrev pub invariant-loop-place : goal.invariant-loop-place
invariant-loop-place l = l.all ++ told_from l.reused l.place (drop l.place l.libraries) ≡ told_from l.reused 0 l.libraries
