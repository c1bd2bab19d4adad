use Rattle.std.proofs.Common.{ap, ◌∙◌, is_some}
use Rattle.core_known.specs.Known.{has_part}
use Rattle.core_known.proofs.NeededLemmas.{has_part-entry, found}
use Rattle.core_known.proofs.shared.SharedBindings.find.Goals as goal

pub returns-in-Some-clause-there : goal.returns-in-Some-clause-there
returns-in-Some-clause-there c =
    let l = c.args.library.now.value in
    ap is_some c.in-Some.ensures.value ∙ has_part-entry l c.self.inside.parts.entries ∙ ap (has_part l) c.self.view_is

pub returns-in-Some-clause-place : goal.returns-in-Some-clause-place
returns-in-Some-clause-place c =
    found c.args.library.now.value c.self.inside.parts.entries c.args.self.now _ _ _ _ c.self.view_is c.in-Some.ensures.entry c.in-Some.ensures.key c.deref-rows.ensures

pub returns-in-None-clause-there : goal.returns-in-None-clause-there
returns-in-None-clause-there c =
    let l = c.args.library.now.value in
    ap is_some c.in-None.ensures.value ∙ has_part-entry l c.self.inside.parts.entries ∙ ap (has_part l) c.self.view_is
