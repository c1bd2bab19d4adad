use Rattle.std.proofs.Common.{◌≡◌, ◌++◌, drop, map}
use Rattle.expand_follows.proofs.names.labels_of_bindings.Given as goal

abbrev pub invariant-loop-row : goal.invariant-loop-row
invariant-loop-row l = l.labels ++ map (λ b. b.0) (drop l.row-index l.bindings) ≡ map (λ b. b.0) l.bindings
