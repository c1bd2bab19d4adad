use Rattle.std.proofs.Common.{◌≡◌, max, drop}
use Rattle.eval_template.specs.Compile.{reaches}
use Rattle.eval_template.proofs.compile.reaches.Given as goal

abbrev pub invariant-loop-item : goal.invariant-loop-item
invariant-loop-item l = max l.most (reaches (drop l.item-index l.made)) ≡ reaches l.made
