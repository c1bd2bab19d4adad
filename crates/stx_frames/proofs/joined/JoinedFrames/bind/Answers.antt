use Rattle.std.proofs.Common.{sym, subst, ◌++◌}
use Rattle.base_data.specs.Gives.{BareGives}
use Rattle.stx_frames.specs.Given.{flat}
use Rattle.stx_frames.specs.Rows.{Row}
use Rattle.stx_frames.specs.Scope.{Scope, bound}
use Rattle.stx_frames.specs.Needed.{parts_given}
use Rattle.stx_frames.proofs.GivenLemmas.{absent-flat, bound_behind, placed_bound}
use Rattle.stx_frames.proofs.joined.JoinedFrames.bind.Goals as goal

abbrev row_in : goal.After-bind → Row
row_in c = record { symbol = c.args.symbol; marks = c.args.marks; label = c.args.label }

pub invariant_of-self : goal.invariant_of-self
invariant_of-self c =
    placed_bound (parts_given c.self.inside.given) c.self.inside.own c.bind.new.self c.args.frame.now (row_in c) c.bind.result c.bind.ensures.row c.bind.ensures.err
    (sym c.if-is_of_given.ensures) c.self.invariant

pub returns-clause-row : goal.returns-clause-row
returns-clause-row c =
    let ps = (parts_given c.self.inside.given) in
    let f = c.args.frame.now in
    subst (λ (x : Scope). BareGives (λ _. flat ps ++ c.bind.new.self) c.bind.result (bound x f (row_in c))) c.self.view_is
    (bound_behind (flat ps) c.self.inside.own c.bind.new.self f (row_in c) c.bind.result (absent-flat f ps c.self.inside.own c.self.invariant (sym c.if-is_of_given.ensures)) c.bind.ensures.row)
