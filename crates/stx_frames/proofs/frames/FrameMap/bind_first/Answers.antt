use Rattle.stx_frames.specs.Rows.{row_of}
use Rattle.stx_frames.proofs.ScopeLemmas.{bound_first}
use Rattle.stx_frames.proofs.frames.FrameMap.bind_first.Goals as goal

pub returns-in-Ok-insert-clause-row : goal.returns-in-Ok-insert-clause-row
returns-in-Ok-insert-clause-row c =
    bound_first c.self.inside.frames c.args.frame.now c.in_ok-frame.frame (row_of (c.args.key, c.args.label)) c.args.self.now c.insert.new.self.entries c.put.new.self c.new-table.result
    c.requires c.self.view_is c.in_ok-frame.ensures c.new-table.ensures c.in-Ok.ensures.row c.in-Ok-insert.ensures.entries
