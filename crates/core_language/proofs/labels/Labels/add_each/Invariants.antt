use Rattle.std.proofs.Common.{◌≡◌, drop}
use Rattle.core_language.specs.Labels.{with_labels}
use Rattle.core_language.proofs.labels.Labels.add_each.Given as goal

abbrev pub invariant-loop-label : goal.invariant-loop-label
invariant-loop-label l = with_labels l.self (drop l.label-index l.labels) ≡ with_labels l.initial.self l.labels
