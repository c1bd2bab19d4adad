use Rattle.law_run.proofs.SpelledRuns.{runs-spelled}
use Rattle.law_run.proofs.spelled.core_text_of_a_run_is_spelled.Goals as goal

pub returns : goal.returns
returns c = runs-spelled
