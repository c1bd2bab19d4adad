use Rattle.std.proofs.Common.{◌≡◌, map, take}
use Rattle.expand_standing.specs.Ready.{frames_part}
use Rattle.expand_standing.proofs.ready.frames_anew.Given as goal

abbrev pub invariant-loop-one : goal.invariant-loop-one
invariant-loop-one l = l.table ≡ map frames_part (take l.one-index l.records)
