use Rattle.std.proofs.Common.{◌≡◌, drop}
use Rattle.core_language.specs.Labels.{same_label}
use Rattle.core_language.specs.Template.{template_size, items_size}
use Rattle.core_language.specs.TemplateView.{items}
use Rattle.law_core.specs.Scope.{item_labels}
use Rattle.law_core.specs.Words.{among, each}
use Rattle.expand_follows.specs.Scope.{under}
use Rattle.expand_follows.proofs.closed.+instance.Given as goal

abbrev pub invariant-are_items_closed-loop-item : goal.invariant-are_items_closed-loop-item
invariant-are_items_closed-loop-item l = each (among same_label (under l.scope l.top.earlier.now l.top.own.now)) (item_labels (items (drop l.item-index l.list))) ≡ each (among same_label (under l.scope l.top.earlier.now l.top.own.now)) (item_labels (items l.list))

abbrev pub decreases-is_instance_closed : goal.decreases-is_instance_closed
decreases-is_instance_closed l = template_size l.template.now

abbrev pub decreases-are_items_closed : goal.decreases-are_items_closed
decreases-are_items_closed l = items_size (items l.list.now)
