use Rattle.std.proofs.Common.{◌≡◌, drop, []}
use Rattle.expand_follows.specs.Pieces.{with_libraries}
use Rattle.expand_follows.proofs.references.libraries_of.Given as goal

abbrev pub invariant-loop-label : goal.invariant-loop-label
invariant-loop-label l = with_libraries l.own l.libraries.keys (drop l.label-index l.mentioned) ≡ with_libraries l.own [] l.mentioned
