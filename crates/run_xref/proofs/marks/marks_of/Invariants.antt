use Rattle.std.proofs.Common.{◌≡◌, ◌≤◌, length, drop}
use Rattle.run_xref.specs.Marks.{ArePlaced, IsPlaced}
use Rattle.run_xref.proofs.marks.marks_of.Given as goal

abbrev pub invariant-loop-rest : goal.invariant-loop-rest
invariant-loop-rest l = record {
  rest : l.rest ≡ drop l.mark.before l.source;
  within : l.mark.before ≤ length l.source;
  placed : IsPlaced l.source l.mark;
  all : ArePlaced l.source l.marks;
}

abbrev pub decreases-loop-rest : goal.decreases-loop-rest
decreases-loop-rest l = length l.rest
