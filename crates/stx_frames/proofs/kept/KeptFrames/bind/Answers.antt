use Rattle.stx_frames.specs.Rows.{Row}
use Rattle.stx_frames.proofs.GrowLemmas.{all_bound}
use Rattle.stx_frames.proofs.kept.KeptFrames.bind.Goals as goal

pub invariant_of-self : goal.invariant_of-self
invariant_of-self c =
    let r : Row = record { symbol = c.args.symbol; marks = c.args.marks; label = c.args.label } in
    all_bound c.bind.result c.self.inside.frames c.bind.new.self c.args.frame.now r c.self.inside.memo c.bind.ensures.row c.bind.ensures.err c.self.invariant
