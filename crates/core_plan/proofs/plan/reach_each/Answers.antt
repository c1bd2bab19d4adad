use Rattle.std.proofs.Common.{arith}
use Rattle.core_plan.specs.Work.{reach_each, work_of}
use Rattle.core_plan.proofs.WorkLemmas.{each_end}
use Rattle.core_plan.proofs.plan.reach_each.Goals as goal

pub returns : goal.returns
returns c =
    each_end c.args.records.now c.args.names.now c.loop-name.name-index (work_of c.loop-name.progress) (reach_each c.args.records.now c.args.names.now (work_of c.args.progress.now))
    (omega arith) c.loop-name.invariant
