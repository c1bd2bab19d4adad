use Rattle.std.proofs.Common.{◌∷◌, ◌++◌, []}
use Rattle.stx_frames.proofs.BinderLemmas.{indexed-after, indexed-frame}
use Rattle.stx_frames.proofs.indexed.IndexedFrames.new_frame.Goals as goal

pub invariant_of-self : goal.invariant_of-self
invariant_of-self c =
    let fs = c.self.inside.frames in
    let index = c.self.inside.index in
    indexed-after c.new_frame.result index fs c.new_frame.new.self (fs ++ (c.args.frame, []) ∷ []) c.new_frame.ensures.ok c.new_frame.ensures.err (indexed-frame index fs c.args.frame c.self.invariant) c.self.invariant
