use Rattle.std.proofs.Common.{◌≡◌, ◌++◌, ◌-◌}
use Rattle.run_reuse.specs.Groups.{places_on}
use Rattle.run_reuse.proofs.groups.add_places.Given as goal

abbrev pub invariant-loop-place : goal.invariant-loop-place
invariant-loop-place l = l.all ++ places_on l.place (l.end - l.place) ≡ l.fn.all ++ places_on l.first (l.end - l.first)
