use Rattle.core_plan.specs.Work.{work_of}
use Rattle.core_plan.proofs.WorkLemmas.{Known, weight}
use Rattle.core_plan.proofs.plan.run_plan.Given as goal

abbrev pub invariant-loop-place : goal.invariant-loop-place
invariant-loop-place l = Known l.records l.program (work_of l.progress)

abbrev pub decreases-loop-place : goal.decreases-loop-place
decreases-loop-place l = weight (work_of l.progress)
