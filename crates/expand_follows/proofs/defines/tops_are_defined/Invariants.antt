use Rattle.std.proofs.Common.{◌≡◌, drop}
use Rattle.std.specs.List.{flat_map}
use Rattle.core_language.specs.Labels.{same_label}
use Rattle.law_core.specs.Follows.{top_label}
use Rattle.law_core.specs.Words.{among, each}
use Rattle.expand_follows.proofs.defines.tops_are_defined.Given as goal

abbrev pub invariant-loop-row : goal.invariant-loop-row
invariant-loop-row l = each (among same_label l.defines) (flat_map top_label (drop l.row-index l.bindings)) ≡ each (among same_label l.defines) (flat_map top_label l.bindings)
