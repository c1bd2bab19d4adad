use Rattle.std.proofs.Common.{◌∙◌, subst}
use Rattle.stx_object.specs.Lengths.{IsCounted}
use Rattle.stx_object.proofs.Lengths.{elements_counted}
use Rattle.stx_object.proofs.syn.Syn.length.Goals as goal

pub returns-in-Some : goal.returns-in-Some
returns-in-Some c =
    let counted : IsCounted c.extent.result.counted c.args.self.now = subst (IsCounted c.extent.result.counted) c.self.view_is c.extent.ensures.2 in
    elements_counted c.extent.result.counted c.from.result c.args.self.now counted c.in-Some.ensures.0 (c.from.ensures ∙ c.in-Some.ensures.1)
