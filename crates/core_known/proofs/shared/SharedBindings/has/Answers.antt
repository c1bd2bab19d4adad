use Rattle.std.proofs.Common.{ap, ◌∙◌}
use Rattle.core_known.specs.Known.{has_part}
use Rattle.core_known.proofs.NeededLemmas.{has_part-entry}
use Rattle.core_known.proofs.shared.SharedBindings.has.Goals as goal

pub returns : goal.returns
returns c =
    let l = c.args.library.now.value in
    c.contains_key.ensures ∙ has_part-entry l c.self.inside.parts.entries ∙ ap (has_part l) c.self.view_is
