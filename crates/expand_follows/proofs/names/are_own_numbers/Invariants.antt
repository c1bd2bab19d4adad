use Rattle.std.proofs.Common.{◌≡◌, drop}
use Rattle.base_data.specs.Same.{same_library}
use Rattle.law_core.specs.Words.{each}
use Rattle.expand_follows.proofs.names.are_own_numbers.Given as goal

abbrev pub invariant-loop-number : goal.invariant-loop-number
invariant-loop-number l = each (λ k. same_library k.0.library l.name) (drop l.number-index l.numbers) ≡ each (λ k. same_library k.0.library l.name) l.numbers
