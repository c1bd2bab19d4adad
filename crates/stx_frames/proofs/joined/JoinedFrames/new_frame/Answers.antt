use Rattle.std.proofs.Common.{sym, ap, ◌∙◌, ◌∷◌, ◌++◌, []}
use Rattle.stx_frames.specs.Given.{flat}
use Rattle.stx_frames.specs.Scope.{has_frame}
use Rattle.stx_frames.specs.Needed.{parts_given}
use Rattle.stx_frames.proofs.GivenLemmas.{has_frame-right, placed-frame, placed_after}
use Rattle.stx_frames.proofs.joined.JoinedFrames.new_frame.Goals as goal

pub new_frame-requires : goal.new_frame-requires
new_frame-requires c =
    has_frame-right c.args.frame (flat (parts_given c.self.inside.given)) c.self.inside.own (ap (has_frame c.args.frame) c.self.view_is ∙ c.requires)

pub invariant_of-self : goal.invariant_of-self
invariant_of-self c =
    let ps = (parts_given c.self.inside.given) in
    let own = c.self.inside.own in
    placed_after ps own c.new_frame.new.self (own ++ (c.args.frame, []) ∷ []) c.new_frame.result c.new_frame.ensures.ok c.new_frame.ensures.err
    (placed-frame ps own c.args.frame [] c.self.invariant (sym c.if-is_of_given.ensures)) c.self.invariant
