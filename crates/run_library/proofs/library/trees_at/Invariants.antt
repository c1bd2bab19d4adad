use Rattle.std.proofs.Common.{◌≡◌, [], drop}
use Rattle.run_library.specs.Library.{trees_at}
use Rattle.run_library.proofs.library.trees_at.Given as goal

abbrev pub invariant-loop-datum : goal.invariant-loop-datum
invariant-loop-datum l = trees_at l.place l.trees (drop l.datum-index l.body) ≡ trees_at l.place [] l.body
