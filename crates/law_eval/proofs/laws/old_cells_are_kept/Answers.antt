use Rattle.law_eval.proofs.Keeping.{keeps-eval_of, keeps-call, keeps-library}
use Rattle.law_eval.proofs.laws.old_cells_are_kept.Goals as goal

pub returns : goal.returns
returns c = record { expressions = keeps-eval_of; calls = keeps-call; libraries = keeps-library }
