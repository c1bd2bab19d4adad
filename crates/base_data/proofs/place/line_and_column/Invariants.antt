use Rattle.std.proofs.Common.{◌<◌, ◌≤◌, ◌+◌, length}
use Rattle.base_data.specs.Place.{place}
use Rattle.base_data.proofs.Places.{Comes}
use Rattle.base_data.proofs.place.line_and_column.Given as goal

abbrev pub invariant-loop-left : goal.invariant-loop-left
invariant-loop-left l = record {
  fits : l.left ≤ length l.rest;
  lines : l.at.0 + l.left ≤ l.offset + 1;
  columns : l.at.1 + l.left ≤ l.offset + 1;
  some : 0 < l.at.1;
  same : Comes l.rest l.left l.at (place l.source l.offset);
}

abbrev pub decreases-loop-left : goal.decreases-loop-left
decreases-loop-left l = l.left
