use Rattle.std.proofs.Common.{◌≡◌, drop}
use Rattle.expand_standing.specs.Own.{labels_with}
use Rattle.expand_standing.proofs.own.add_labels.Given as goal

abbrev pub invariant-loop-export : goal.invariant-loop-export
invariant-loop-export l = labels_with l.labels (drop l.export-index l.exports) ≡ labels_with l.fn.labels l.exports
