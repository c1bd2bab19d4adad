use Rattle.std.proofs.Common.{◌≡◌, map, take}
use Rattle.expand_standing.specs.Ready.{bindings_part}
use Rattle.expand_standing.proofs.ready.bindings_anew.Given as goal

abbrev pub invariant-loop-one : goal.invariant-loop-one
invariant-loop-one l = l.table ≡ map bindings_part (take l.one-index l.records)
