use Rattle.std.proofs.Common.{◌≤◌, ◌-◌, length}
use Rattle.run_xref.specs.Marks.{Leads}
use Rattle.run_xref.proofs.marks.walk.Given as goal

abbrev pub invariant-loop-mark : goal.invariant-loop-mark
invariant-loop-mark l = record {
  within : l.mark.before ≤ length l.source;
  leads : Leads l.source l.offset l.mark;
}

abbrev pub decreases-loop-mark : goal.decreases-loop-mark
decreases-loop-mark l = l.offset - l.mark.before
