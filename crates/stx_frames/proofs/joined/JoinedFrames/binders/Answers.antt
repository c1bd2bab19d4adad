use Rattle.std.proofs.Common.{sym}
use Rattle.stx_frames.specs.Needed.{parts_given}
use Rattle.stx_frames.proofs.BinderLemmas.{some-own}
use Rattle.stx_frames.proofs.joined.JoinedFrames.binders.Goals as goal

pub returns : goal.returns
returns c =
    some-own (parts_given c.self.inside.given) c.self.inside.own c.args.self.now c.args.symbol.now c.args.library.now.value c.binders.result c.self.invariant (sym c.if-is_given.ensures) c.self.view_is c.binders.ensures
