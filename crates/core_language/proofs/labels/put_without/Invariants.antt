use Rattle.std.proofs.Common.{◌≡◌, ◌++◌, drop}
use Rattle.core_language.specs.Labels.{without}
use Rattle.core_language.proofs.labels.put_without.Given as goal

abbrev pub invariant-loop-label : goal.invariant-loop-label
invariant-loop-label l = l.left.items ++ without l.others (drop l.label-index l.labels) ≡ l.initial.left.items ++ without l.others l.labels
