use Rattle.std.proofs.Common.{◌≡◌, drop}
use Rattle.eval_template.specs.Compile.{all_fixed}
use Rattle.eval_template.proofs.compile.all_fixed.Given as goal

abbrev pub invariant-loop-item : goal.invariant-loop-item
invariant-loop-item l = all_fixed (drop l.item-index l.made) ≡ all_fixed l.made
