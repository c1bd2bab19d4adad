use Rattle.std.proofs.Common.{◌≡◌, ◌≤◌, drop, length}
use Rattle.eval_stage.specs.Libraries.{needed_records, wanted}
use Rattle.eval_stage.proofs.libraries.LibraryList.add_wanted.Given as goal

abbrev pub invariant-loop-place : goal.invariant-loop-place
invariant-loop-place l = record {
  within : l.place ≤ length l.earlier.records.now;
  so_far : l.self ≡ wanted (needed_records (drop l.place l.earlier.needs.now) (drop l.place l.earlier.records.now)) l.initial.self;
}

abbrev pub decreases-loop-place : goal.decreases-loop-place
decreases-loop-place l = l.place
