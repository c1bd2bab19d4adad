use Rattle.std.proofs.Common.{◌≡◌, sym, ◌∙◌}
use Rattle.core_language.specs.Template as plain
use Rattle.eval_template.specs.Binds.{looked_up}
use Rattle.eval_template.proofs.RestItem.{label_is, not_bound}
use Rattle.eval_template.proofs.rest.takes_rest.Goals as goal

pub returns : goal.returns
returns c same =
    let label : c.args.label.now ≡ c.args.context.now.label.now = label_is c.args.label.now c.args.context.now.label.now (sym c.is_same.ensures ∙ same) in (
      (λ i. plain.variable (label i) (c.if-depth-ne1.false i)),
      not_bound (looked_up c.args.context.now.binds.now c.args.context.now.label.now) (sym c.is_bound.ensures ∙ c.if-is_bound.false),
    )
