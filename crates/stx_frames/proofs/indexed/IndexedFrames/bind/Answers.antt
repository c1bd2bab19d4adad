use Rattle.stx_frames.specs.Rows.{Row}
use Rattle.stx_frames.proofs.BinderLemmas.{indexed-covers, indexed-bound}
use Rattle.stx_frames.proofs.indexed.IndexedFrames.bind.Goals as goal

pub invariant_of-self : goal.invariant_of-self
invariant_of-self c = indexed-covers c.self.inside.index c.add.new.self c.self.inside.frames c.add.ensures.kept c.self.invariant

pub invariant_of-self-2 : goal.invariant_of-self-2
invariant_of-self-2 c =
    let fs = c.self.inside.frames in
    let row : Row = record { symbol = c.args.symbol; marks = c.args.marks; label = c.args.label } in
    indexed-bound c.bind.result c.add.new.self fs c.bind.new.self c.args.frame.now row c.bind.ensures.row c.bind.ensures.err
    (indexed-covers c.self.inside.index c.add.new.self fs c.add.ensures.kept c.self.invariant) c.in-Ok.ensures.there
