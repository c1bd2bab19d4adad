use Rattle.stx_frames.specs.Scope.{adopted}
use Rattle.stx_frames.proofs.GrowLemmas.{all_after, grows_adopted}
use Rattle.stx_frames.proofs.kept.KeptFrames.adopt.Goals as goal

pub invariant_of-self : goal.invariant_of-self
invariant_of-self c =
    let fs = c.self.inside.frames in
    all_after c.adopt.result fs c.adopt.new.self (adopted fs c.args.rows.now) c.self.inside.memo c.adopt.ensures.ok c.adopt.ensures.err (grows_adopted fs c.args.rows.now) c.self.invariant
