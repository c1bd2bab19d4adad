use Rattle.std.proofs.Common.{◌≡◌}
use Rattle.expand_quasi.specs.Inserted.{pattern_under, insert_pattern}
use Rattle.expand_quasi.proofs.inserted.insert_pattern.Given as goal

abbrev pub invariant-loop-left : goal.invariant-loop-left
invariant-loop-left l = pattern_under l.left l.pattern ≡ insert_pattern l.variable

abbrev pub decreases-loop-left : goal.decreases-loop-left
decreases-loop-left l = l.left
