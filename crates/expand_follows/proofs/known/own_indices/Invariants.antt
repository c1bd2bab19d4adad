use Rattle.std.proofs.Common.{◌≡◌, drop, []}
use Rattle.expand_follows.specs.Pieces.{with_indices}
use Rattle.expand_follows.proofs.known.own_indices.Given as goal

abbrev pub invariant-loop-row : goal.invariant-loop-row
invariant-loop-row l = with_indices l.indices.entries (drop l.row-index l.bindings) ≡ with_indices [] l.bindings
