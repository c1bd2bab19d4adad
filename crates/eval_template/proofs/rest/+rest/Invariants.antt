use Rattle.std.proofs.Common.{◌+◌, ◌*◌, drop}
use Rattle.core_language.specs.Template.{template_size, items_size}
use Rattle.core_language.specs.TemplateView.{items}
use Rattle.eval_template.specs.Rests.{Under}
use Rattle.eval_template.proofs.RestParts.{GoesOn}
use Rattle.eval_template.proofs.rest.+rest.Given as goal

abbrev pub invariant-items_with_rest-loop-part : goal.invariant-items_with_rest-loop-part
invariant-items_with_rest-loop-part l = Under l.context (GoesOn l.done (items (drop l.part-index l.list)) (items l.list))

abbrev pub decreases-tree_with_rest : goal.decreases-tree_with_rest
decreases-tree_with_rest l = 4 * template_size l.template.now

abbrev pub decreases-ending_with_rest : goal.decreases-ending_with_rest
decreases-ending_with_rest l = 4 * template_size l.tail.now + 1

abbrev pub decreases-list_with_rest : goal.decreases-list_with_rest
decreases-list_with_rest l = 4 * (items_size (items l.list.now) + template_size l.tail.now) + 3

abbrev pub decreases-list_of_items : goal.decreases-list_of_items
decreases-list_of_items l = 4 * (items_size (items l.list.now) + template_size l.tail.now) + 2

abbrev pub decreases-vector_with_rest : goal.decreases-vector_with_rest
decreases-vector_with_rest l = 4 * items_size (items l.list.now) + 1

abbrev pub decreases-items_with_rest : goal.decreases-items_with_rest
decreases-items_with_rest l = 4 * items_size (items l.list.now)

abbrev pub decreases-item_with_rest : goal.decreases-item_with_rest
decreases-item_with_rest l = 4 * (template_size l.part.now.template + l.part.now.ellipses) + 2
