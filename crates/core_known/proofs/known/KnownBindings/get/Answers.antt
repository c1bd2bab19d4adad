use Rattle.std.proofs.Common.{ap, sym, ◌∙◌}
use Rattle.base_data.specs.declared.name.Label.{Label}
use Rattle.core_language.specs.Bindings.{bound_to}
use Rattle.core_known.specs.Known.{LabelBindings, part_of}
use Rattle.core_known.specs.Needed.{parts_given}
use Rattle.core_known.proofs.Parts.{bound-part}
use Rattle.core_known.proofs.known.KnownBindings.get.Goals as goal

pub returns : goal.returns
returns c =
    let ps = parts_given c.self.inside.given in
    let own = c.self.inside.own in
    let label = c.args.label.now in
    c.get.ensures ∙ ap (λ (bs : LabelBindings). bound_to bs label) c.part.ensures ∙ ap (λ (l : Label). bound_to (part_of ps own l.0.library) label) c.label.view_is
    ∙ sym (bound-part label ps own c.self.invariant) ∙ ap (λ (bs : LabelBindings). bound_to bs label) c.self.view_is
