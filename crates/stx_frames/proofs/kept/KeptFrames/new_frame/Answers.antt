use Rattle.std.proofs.Common.{◌∷◌, ◌++◌, []}
use Rattle.stx_frames.proofs.GrowLemmas.{all_after, grows_given}
use Rattle.stx_frames.proofs.kept.KeptFrames.new_frame.Goals as goal

pub invariant_of-self : goal.invariant_of-self
invariant_of-self c =
    let fs = c.self.inside.frames in
    all_after c.new_frame.result fs c.new_frame.new.self (fs ++ (c.args.frame, []) ∷ []) c.self.inside.memo c.new_frame.ensures.ok c.new_frame.ensures.err (grows_given fs ((c.args.frame, []) ∷ [])) c.self.invariant
