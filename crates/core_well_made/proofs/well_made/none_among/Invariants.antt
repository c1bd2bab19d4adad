use Rattle.std.proofs.Common.{◌≡◌, drop}
use Rattle.std.specs.Prelude.{not}
use Rattle.core_language.specs.Labels.{same_label}
use Rattle.law_core.specs.Words.{among, each}
use Rattle.core_well_made.proofs.well_made.none_among.Given as goal

abbrev pub invariant-loop-label : goal.invariant-loop-label
invariant-loop-label l = each (λ k. not (among same_label l.others k)) (drop l.label-index l.labels) ≡ each (λ k. not (among same_label l.others k)) l.labels
