use Rattle.std.proofs.Common.{◌≡◌, take}
use Rattle.expand_standing.proofs.start.marks_of.Given as goal

abbrev pub invariant-loop-mark : goal.invariant-loop-mark
invariant-loop-mark l = l.marks ≡ take l.mark-index l.needs
