use Rattle.stx_tree.proofs.MeasureLaws.{size-changed, height-changed}
use Rattle.stx_tree.proofs.laws.changes_keep_measures.Goals as goal

pub returns : goal.returns
returns c = record { size = size-changed; height = height-changed }
