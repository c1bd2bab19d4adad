use Rattle.law_run.proofs.ReadableRuns.{texts-back}
use Rattle.law_run.proofs.readable.the_text_of_a_run_is_read_back.Goals as goal

pub returns : goal.returns
returns c = texts-back c.core_text_is_read_back.ensures.whole
