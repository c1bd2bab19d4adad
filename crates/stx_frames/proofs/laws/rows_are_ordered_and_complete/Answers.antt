use Rattle.stx_frames.proofs.ListedLaws.{filter-rows_in, ordered_rows_in}
use Rattle.stx_frames.proofs.laws.rows_are_ordered_and_complete.Goals as goal

pub returns : goal.returns
returns c = record { own = filter-rows_in; ordered = ordered_rows_in }
