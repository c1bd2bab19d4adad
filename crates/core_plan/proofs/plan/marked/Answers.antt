use Rattle.std.proofs.Common.{arith}
use Rattle.core_plan.specs.Work.{marked_from}
use Rattle.core_plan.proofs.MarkLemmas.{marked_end}
use Rattle.core_plan.proofs.plan.marked.Goals as goal

pub returns : goal.returns
returns c = marked_end c.args.marks.now c.loop-place.place c.loop-place.plan.items (marked_from 0 c.args.marks.now) (omega arith) c.loop-place.invariant
