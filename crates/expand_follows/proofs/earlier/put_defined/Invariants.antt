use Rattle.std.proofs.Common.{◌≡◌, drop}
use Rattle.std.specs.List.{flat_map}
use Rattle.law_core.specs.Records.{line_labels}
use Rattle.expand_follows.specs.Earlier.{adds_labels}
use Rattle.expand_follows.proofs.earlier.put_defined.Given as goal

abbrev pub invariant-loop-line : goal.invariant-loop-line
invariant-loop-line l = adds_labels l.labels.entries (flat_map line_labels (drop l.line-index l.run)) l.place ≡ adds_labels l.initial.labels.entries (flat_map line_labels l.run) l.place
