use Rattle.std.proofs.Common.{◌≡◌, drop, map}
use Rattle.expand_follows.specs.Earlier.{adds_labels}
use Rattle.expand_follows.proofs.earlier.put_bound.Given as goal

abbrev pub invariant-loop-row : goal.invariant-loop-row
invariant-loop-row l = adds_labels l.labels.entries (map (λ b. b.0) (drop l.row-index l.bindings)) l.place ≡ adds_labels l.initial.labels.entries (map (λ b. b.0) l.bindings) l.place
