use Rattle.std.proofs.Common.{◌≡◌, drop}
use Rattle.core_language.specs.Template.{template_size, items_size}
use Rattle.core_language.specs.TemplateView.{items}
use Rattle.expand_standing.specs.Patterns.{has_item_variables}
use Rattle.expand_standing.proofs.patterns.+has.Given as goal

abbrev pub invariant-has_item_variables-loop-item : goal.invariant-has_item_variables-loop-item
invariant-has_item_variables-loop-item l = has_item_variables l.scope (items (drop l.item-index l.list)) ≡ has_item_variables l.scope (items l.list)

abbrev pub decreases-has_variables : goal.decreases-has_variables
decreases-has_variables l = template_size l.template.now

abbrev pub decreases-has_item_variables : goal.decreases-has_item_variables
decreases-has_item_variables l = items_size (items l.list.now)
