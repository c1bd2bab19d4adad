use Rattle.std.proofs.Common.{ap, sym, ◌∙◌}
use Rattle.base_data.specs.declared.name.Label.{Label}
use Rattle.core_language.specs.Bindings.{bound_to}
use Rattle.core_known.specs.Known.{LabelBindings, flat, has_part}
use Rattle.core_known.specs.Needed.{parts_given}
use Rattle.core_known.proofs.Parts.{unbound-right, placed_after}
use Rattle.core_known.proofs.known.KnownBindings.add.Goals as goal

pub add-requires : goal.add-requires
add-requires c =
    unbound-right c.args.label (flat (parts_given c.self.inside.given)) c.self.inside.own (ap (λ (bs : LabelBindings). bound_to bs c.args.label) c.self.view_is ∙ c.requires)

pub invariant_of-self : goal.invariant_of-self
invariant_of-self c =
    let ps = parts_given c.self.inside.given in
    let none = ap (λ (l : Label). has_part l.0.library ps) (sym c.label.view_is) ∙ sym c.if-is_given.ensures in
    placed_after ps c.self.inside.own c.add.new.self c.args.label c.args.binding c.add.result c.add.ensures.ok c.add.ensures.err c.self.invariant none
