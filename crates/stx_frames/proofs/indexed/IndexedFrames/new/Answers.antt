use Rattle.stx_frames.proofs.BinderLemmas.{indexed-empty}
use Rattle.stx_frames.proofs.indexed.IndexedFrames.new.Goals as goal

pub invariant_of-result : goal.invariant_of-result
invariant_of-result c = rw (c.new-index.ensures, c.new-frames.ensures) indexed-empty
