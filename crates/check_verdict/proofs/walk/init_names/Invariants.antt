use Rattle.std.proofs.Common.{◌≡◌, drop}
use Rattle.base_data.specs.Datum.{chain, nil}
use Rattle.check_verdict.specs.Walk.{init_names}
use Rattle.check_verdict.proofs.walk.init_names.Given as goal

abbrev pub invariant-loop-item : goal.invariant-loop-item
invariant-loop-item l = init_names (chain (drop l.item-index l.items) nil) l.survey ≡ init_names (chain l.items nil) l.fn.survey
