use Rattle.std.proofs.Common.{◌≡◌, drop}
use Rattle.expand_forms.specs.Top.{with_labels_of}
use Rattle.expand_forms.proofs.top.add_labels.Given as goal

abbrev pub invariant-loop-label : goal.invariant-loop-label
invariant-loop-label l = with_labels_of l.own l.done (drop l.label-index l.labels) ≡ with_labels_of l.own l.fn.done l.labels
