use Rattle.law_run.proofs.SpelledRuns.{runs-tell}
use Rattle.law_run.proofs.spelled.core_text_of_a_run_tells_its_lines.Goals as goal

pub returns : goal.returns
returns c = runs-tell c.core_text_tells_its_lines.ensures
