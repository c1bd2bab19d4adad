use Rattle.std.proofs.Common.{sym, ◌∙◌}
use Rattle.eval_template.proofs.RestParts.{variable_made}
use Rattle.eval_template.proofs.rest.bound_tree.Goals as goal

pub returns-in-Some : goal.returns-in-Some
returns-in-Some c =
    variable_made c.args.context.now c.args.label.now c.args.depth c.in-Some.tree (sym c.is_bound.ensures ∙ c.if-not-is_bound.false) (sym c.in-Some.is ∙ c.in_ok-tree_at.ensures)
