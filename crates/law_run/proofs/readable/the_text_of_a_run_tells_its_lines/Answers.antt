use Rattle.law_run.proofs.ReadableRuns.{texts-tell}
use Rattle.law_run.proofs.readable.the_text_of_a_run_tells_its_lines.Goals as goal

pub returns : goal.returns
returns c = texts-tell c.core_text_tells_its_lines.ensures
