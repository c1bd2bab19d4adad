use Rattle.std.proofs.Common.{◌≡◌, drop, map}
use Rattle.base_data.specs.Same.{same_library}
use Rattle.law_core.specs.Words.{each}
use Rattle.expand_follows.proofs.names.are_own_bindings.Given as goal

abbrev pub invariant-loop-row : goal.invariant-loop-row
invariant-loop-row l = each (λ k. same_library k.0.library l.name) (map (λ b. b.0) (drop l.row-index l.bindings)) ≡ each (λ k. same_library k.0.library l.name) (map (λ b. b.0) l.bindings)
