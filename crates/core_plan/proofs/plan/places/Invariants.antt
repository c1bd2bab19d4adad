use Rattle.std.proofs.Common.{◌≡◌, ◌≤◌, drop, length}
use Rattle.base_data.specs.declared.library.LibName.{LibName}
use Rattle.core_plan.specs.Places.{place_from, place_in}
use Rattle.core_plan.proofs.plan.places.Given as goal

abbrev pub invariant-loop-left : goal.invariant-loop-left
invariant-loop-left l = record {
  within : l.left ≤ length l.records;
  kept : (name : LibName) → place_in l.places.entries name ≡ place_from l.left name (drop l.left l.records);
}

abbrev pub decreases-loop-left : goal.decreases-loop-left
decreases-loop-left l = l.left
