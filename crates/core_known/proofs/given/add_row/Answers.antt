use Rattle.std.proofs.Common.{ap, sym, ◌∙◌}
use Rattle.base_data.specs.declared.name.Label.{Label}
use Rattle.core_known.proofs.Parts.{of_after, same_from}
use Rattle.core_known.proofs.given.add_row.Goals as goal

pub returns-clause-of : goal.returns-clause-of
returns-clause-of c =
    let library = ap (λ (l : Label). l.0.library) (c.label.view_is ∙ sym c.in_ok-label.ensures) in
    let same = same_from c.ne.result c.deref.result.now c.in_ok-label.label.0.library c.args.library.now (c.deref.ensures ∙ library) c.ne.ensures c.if-ne.false in
    of_after c.args.library.now c.args.bindings.now c.add.new.self c.in_ok-label.label c.in_ok-binding.binding c.add.result c.add.ensures.ok c.requires same
