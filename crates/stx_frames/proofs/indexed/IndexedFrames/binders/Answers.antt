use Rattle.stx_frames.proofs.BinderLemmas.{some-named}
use Rattle.stx_frames.proofs.indexed.IndexedFrames.binders.Goals as goal

pub returns : goal.returns
returns c = some-named c.self.inside.index c.self.inside.frames c.args.self.now c.args.symbol.now c.get.result c.self.invariant c.self.view_is c.get.ensures
