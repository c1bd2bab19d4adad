use Rattle.eval_value.proofs.Stored.{stored_keeps}
use Rattle.eval_value.proofs.laws.data_keep_older_cells.Goals as goal

pub returns : goal.returns
returns c = stored_keeps
