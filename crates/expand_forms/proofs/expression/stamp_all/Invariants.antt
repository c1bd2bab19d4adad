use Rattle.std.proofs.Common.{◌≡◌, map, take}
use Rattle.stx_tree.specs.Changes.{stamp}
use Rattle.expand_forms.proofs.expression.stamp_all.Given as goal

abbrev pub invariant-loop-form : goal.invariant-loop-form
invariant-loop-form g l = l.all ≡ map (stamp l.frame) (take l.form-index l.forms)
