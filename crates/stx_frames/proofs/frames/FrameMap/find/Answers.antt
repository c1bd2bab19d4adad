use Rattle.std.proofs.Common.{sym, ap, ◌∙◌, List}
use Rattle.stx_frames.specs.Rows.{Row, label_in}
use Rattle.stx_frames.proofs.ScopeLemmas.{found_rows, no_rows}
use Rattle.stx_frames.proofs.frames.FrameMap.find.Goals as goal

pub returns-in-Some : goal.returns-in-Some
returns-in-Some c =
    let k = c.args.key.now in
    c.find.ensures ∙ ap (λ (rs : List Row). label_in rs k.symbol k.marks) (sym (found_rows c.args.frame.now c.self.inside.frames.entries c.args.self.now c.in-Some.table.now c.in-Some.ensures.value c.self.view_is))

pub returns-in-None : goal.returns-in-None
returns-in-None c =
    let k = c.args.key.now in
    ap (λ (rs : List Row). label_in rs k.symbol k.marks) (sym (no_rows c.args.frame.now c.self.inside.frames.entries c.args.self.now c.in-None.ensures.value c.self.view_is))
