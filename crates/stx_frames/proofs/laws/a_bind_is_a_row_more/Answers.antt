use Rattle.stx_frames.proofs.FrameLaws.{rows_at-with_row, rows_at-other}
use Rattle.stx_frames.proofs.laws.a_bind_is_a_row_more.Goals as goal

pub returns : goal.returns
returns c = record { own = rows_at-with_row; others = rows_at-other }
