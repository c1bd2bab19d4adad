use Rattle.std.proofs.Common.{sym, ◌∙◌}
use Rattle.eval_template.proofs.RestParts.{all_added}
use Rattle.eval_template.proofs.rest.repeated_item.Goals as goal

pub returns-in-Some-2 : goal.returns-in-Some-2
returns-in-Some-2 c =
    all_added c.args.context.now c.args.part.now c.args.done (record { trees = c.in-Some-2.trees; cost = c.in-Some-checked_add.cost }) c.in-Some.own
    (sym c.all_bound.ensures ∙ c.if-not-all_bound.false) (rw c.in-Some.is at c.in_ok-own.ensures) (rw c.in-Some-2.is at c.in_ok-repeated_trees.ensures)
    c.in-Some-checked_add.ensures.1
