use Rattle.std.proofs.Common.{◌≡◌, ◌*◌, drop}
use Rattle.core_language.specs.Template.{template_size, items_size}
use Rattle.core_language.specs.TemplateView.{items}
use Rattle.eval_template.specs.Trees.{all_items_bound}
use Rattle.eval_template.proofs.tree.+bound.Given as goal

abbrev pub invariant-all_items_bound-loop-item : goal.invariant-all_items_bound-loop-item
invariant-all_items_bound-loop-item l = all_items_bound l.binds (items (drop l.item-index l.list)) ≡ all_items_bound l.binds (items l.list)

abbrev pub decreases-all_bound : goal.decreases-all_bound
decreases-all_bound l = 4 * template_size l.template.now

abbrev pub decreases-all_items_bound : goal.decreases-all_items_bound
decreases-all_items_bound l = 4 * items_size (items l.list.now)
