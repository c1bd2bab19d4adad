use Rattle.std.proofs.Common.{◌≡◌, drop}
use Rattle.base_data.specs.Same.{same_library}
use Rattle.law_core.specs.Words.{each}
use Rattle.expand_follows.proofs.names.are_own_labels.Given as goal

abbrev pub invariant-loop-label : goal.invariant-loop-label
invariant-loop-label l = each (λ k. same_library k.0.library l.name) (drop l.label-index l.labels) ≡ each (λ k. same_library k.0.library l.name) l.labels
