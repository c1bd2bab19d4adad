use Rattle.std.proofs.Common.{◌≡◌, ◌++◌, drop}
use Rattle.run_reuse.specs.Groups.{groups_from}
use Rattle.run_reuse.proofs.groups.all_groups.Given as goal

abbrev pub invariant-loop-place : goal.invariant-loop-place
invariant-loop-place l = l.groups ++ groups_from l.first l.place (drop l.place l.sources) ≡ groups_from 0 0 l.sources
