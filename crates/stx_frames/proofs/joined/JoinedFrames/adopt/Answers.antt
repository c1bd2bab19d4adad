use Rattle.std.proofs.Common.{sym, ap, ◌∙◌, ◌++◌}
use Rattle.std.proofs.lemmas.Result.{on_ok_weaker}
use Rattle.stx_frames.specs.Given.{flat}
use Rattle.stx_frames.specs.Scope.{Scope, are_new, adopted}
use Rattle.stx_frames.specs.Needed.{parts_given}
use Rattle.stx_frames.proofs.GivenLemmas.{are_new-right, placed_adopted, placed_after, adopted_behind}
use Rattle.stx_frames.proofs.joined.JoinedFrames.adopt.Goals as goal

pub adopt-requires : goal.adopt-requires
adopt-requires c =
    are_new-right c.args.rows.now (flat (parts_given c.self.inside.given)) c.self.inside.own (ap (are_new c.args.rows.now) c.self.view_is ∙ c.requires)

pub invariant_of-self : goal.invariant_of-self
invariant_of-self c =
    let ps = (parts_given c.self.inside.given) in
    let own = c.self.inside.own in
    let rs = c.args.rows.now in
    placed_after ps own c.adopt.new.self (adopted own rs) c.adopt.result c.adopt.ensures.ok c.adopt.ensures.err
    (placed_adopted ps own rs c.self.invariant (sym c.if-not-are_own.ensures)) c.self.invariant

pub returns-clause-ok : goal.returns-clause-ok
returns-clause-ok c =
    let ps = (parts_given c.self.inside.given) in
    let own = c.self.inside.own in
    let rs = c.args.rows.now in
    on_ok_weaker c.adopt.result
    (λ e. ap (λ (x : Scope). flat ps ++ x) e ∙ adopted_behind ps own rs c.self.invariant (sym c.if-not-are_own.ensures) ∙ ap (λ (x : Scope). adopted x rs) c.self.view_is)
    c.adopt.ensures.ok
