use Rattle.law_run.proofs.ReadableRuns.{runs-readable}
use Rattle.law_run.proofs.readable.constants_of_a_run_can_be_read.Goals as goal

pub returns : goal.returns
returns c = runs-readable
