use Rattle.law_run.proofs.Written.{runs-written}
use Rattle.law_run.proofs.by_name.a_written_text_is_closed_and_bound_once_by_name.Goals as goal

pub returns : goal.returns
returns c = runs-written
