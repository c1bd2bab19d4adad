use Rattle.stx_scope.proofs.FewLaws.{few_are_enough}
use Rattle.stx_scope.proofs.scope.Frames.found_by_few.Goals as goal

pub returns : goal.returns
returns c =
    few_are_enough c.self.inside.frames c.args.self.now c.args.symbol.now c.deref.result.now _ c.in-Some-binders.binders.now c.args.stamps.now c.in_ok-label.label
    c.self.view_is c.deref.ensures c.in-Some-binders.ensures c.in_ok-label.ensures
