use Rattle.law_run.proofs.ReadableRuns.{constants-read}
use Rattle.law_run.proofs.readable.each_constant_is_read.Goals as goal

pub returns : goal.returns
returns c = constants-read
