use Rattle.std.proofs.Common.{◌≡◌, drop}
use Rattle.eval_template.specs.Compile.{any_changed}
use Rattle.eval_template.proofs.compile.any_changed.Given as goal

abbrev pub invariant-loop-item : goal.invariant-loop-item
invariant-loop-item l = any_changed (drop l.item-index l.made) ≡ any_changed l.made
