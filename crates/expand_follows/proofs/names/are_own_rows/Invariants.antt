use Rattle.std.proofs.Common.{◌≡◌, drop}
use Rattle.base_data.specs.Same.{same_library}
use Rattle.law_core.specs.Words.{each}
use Rattle.expand_follows.proofs.names.are_own_rows.Given as goal

abbrev pub invariant-loop-row : goal.invariant-loop-row
invariant-loop-row l = each (λ k. same_library k.frame.0.library l.name) (drop l.row-index l.rows) ≡ each (λ k. same_library k.frame.0.library l.name) l.rows
