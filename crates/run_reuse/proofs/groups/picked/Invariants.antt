use Rattle.std.proofs.Common.{◌≡◌, ◌++◌, drop}
use Rattle.run_reuse.specs.Groups.{picked}
use Rattle.run_reuse.proofs.groups.picked.Given as goal

abbrev pub invariant-loop-place : goal.invariant-loop-place
invariant-loop-place l = l.all ++ picked l.sources (drop l.place-index l.places) ≡ picked l.sources l.places
