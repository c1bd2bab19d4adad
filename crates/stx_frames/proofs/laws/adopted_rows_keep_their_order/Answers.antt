use Rattle.stx_frames.proofs.FrameLaws.{rows_at-adopted}
use Rattle.stx_frames.proofs.laws.adopted_rows_keep_their_order.Goals as goal

pub returns : goal.returns
returns c = rows_at-adopted
