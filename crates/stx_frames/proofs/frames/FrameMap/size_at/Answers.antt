use Rattle.std.proofs.Common.{sym, ap, ◌∙◌, List, length}
use Rattle.stx_frames.specs.Rows.{Row}
use Rattle.stx_frames.proofs.ScopeLemmas.{found_rows, no_rows}
use Rattle.stx_frames.proofs.frames.FrameMap.size_at.Goals as goal

pub returns-in-Some : goal.returns-in-Some
returns-in-Some c = c.size.ensures ∙ ap (λ (rs : List Row). length rs) (sym (found_rows c.args.frame.now c.self.inside.frames.entries c.args.self.now c.in-Some.table.now c.in-Some.ensures.value c.self.view_is))

pub returns-in-None : goal.returns-in-None
returns-in-None c = ap (λ (rs : List Row). length rs) (sym (no_rows c.args.frame.now c.self.inside.frames.entries c.args.self.now c.in-None.ensures.value c.self.view_is))
