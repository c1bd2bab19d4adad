use Rattle.std.proofs.Common.{◌≡◌, drop}
use Rattle.base_data.specs.Same.{same_library}
use Rattle.law_core.specs.Follows.{names_of}
use Rattle.law_core.specs.Words.{among, each}
use Rattle.expand_follows.proofs.references.are_earlier.Given as goal

abbrev pub invariant-loop-name : goal.invariant-loop-name
invariant-loop-name l = each (among same_library (names_of l.earlier)) (drop l.name-index l.refs) ≡ each (among same_library (names_of l.earlier)) l.refs
