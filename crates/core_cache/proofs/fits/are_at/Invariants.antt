use Rattle.std.proofs.Common.{◌≡◌, length}
use Rattle.core_cache.specs.Fits as spec
use Rattle.core_cache.proofs.fits.are_at.Given as goal

abbrev pub invariant-loop-places : goal.invariant-loop-places
invariant-loop-places l = spec.are_at l.sources l.places l.left ≡ spec.are_at l.sources l.chosen l.kept

abbrev pub decreases-loop-places : goal.decreases-loop-places
decreases-loop-places l = length l.places
