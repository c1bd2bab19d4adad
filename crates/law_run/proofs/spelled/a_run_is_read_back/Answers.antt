use Rattle.law_run.proofs.SpelledRuns.{runs-back}
use Rattle.law_run.proofs.spelled.a_run_is_read_back.Goals as goal

pub returns : goal.returns
returns c = runs-back c.core_text_is_read_back.ensures.whole
