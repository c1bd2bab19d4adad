use Rattle.std.proofs.Common.{◌≡◌, Bool, subst}
use Rattle.std.specs.Prelude.{IfOk}
use Rattle.core_well_made.proofs.Distinct.{once_is}
use Rattle.core_well_made.proofs.once.once.Goals as goal

pub returns : goal.returns
returns g c =
    subst (λ (z : Bool). IfOk c.come_once.result (λ (b : Bool). b ≡ z)) (once_is g.T.PartialEq.eq g.met.T.Eq.laws.symm c.args.items.items) c.come_once.ensures
