use Rattle.std.proofs.Common.{◌≡◌, drop}
use Rattle.base_data.specs.Datum.{chain, nil}
use Rattle.check_verdict.specs.Walk.{formals}
use Rattle.check_verdict.proofs.walk.formals_in.Given as goal

abbrev pub invariant-loop-item : goal.invariant-loop-item
invariant-loop-item l = formals (chain (drop l.item-index l.items) l.tail) l.survey ≡ formals (chain l.items l.tail) l.fn.survey
