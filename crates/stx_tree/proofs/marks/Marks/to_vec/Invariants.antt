use Rattle.std.proofs.Common.{◌≡◌, take}
use Rattle.stx_tree.proofs.marks.Marks.to_vec.Given as goal

abbrev pub invariant-loop-slot : goal.invariant-loop-slot
invariant-loop-slot l = l.marks.items ≡ take l.slot-index l.slot-items
