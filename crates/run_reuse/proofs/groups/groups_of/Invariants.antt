use Rattle.std.proofs.Common.{take}
use Rattle.run_reuse.specs.Groups.{AreGroups, groups_from}
use Rattle.run_reuse.proofs.groups.groups_of.Given as goal

abbrev pub invariant-loop-place : goal.invariant-loop-place
invariant-loop-place l = AreGroups (groups_from 0 0 l.sources) l.begun (take l.place l.done) l.groups
