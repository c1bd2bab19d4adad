use Rattle.std.proofs.Common.{◌≡◌, drop}
use Rattle.std.specs.List.{flat_map}
use Rattle.core_language.specs.Labels.{same_label}
use Rattle.law_core.specs.Records.{line_labels}
use Rattle.law_core.specs.Words.{among, each}
use Rattle.expand_follows.proofs.defines.defined_are_tops.Given as goal

abbrev pub invariant-loop-line : goal.invariant-loop-line
invariant-loop-line l = each (among same_label l.tops) (flat_map line_labels (drop l.line-index l.lines)) ≡ each (among same_label l.tops) (flat_map line_labels l.lines)
