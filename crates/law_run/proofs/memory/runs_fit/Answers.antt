use Rattle.law_run.proofs.Runs.{records-fit, expansions-begin}
use Rattle.law_run.proofs.memory.runs_fit.Goals as goal

pub returns : goal.returns
returns c = record { records = records-fit; starts = expansions-begin }
