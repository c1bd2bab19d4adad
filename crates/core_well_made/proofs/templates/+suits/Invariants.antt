use Rattle.std.proofs.Common.{◌≡◌, ◌+◌, ◌*◌, drop, max}
use Rattle.core_language.specs.Template.{template_size, items_size}
use Rattle.core_language.specs.TemplateView.{items}
use Rattle.law_core.specs.Templates.{items_suit}
use Rattle.core_well_made.specs.Reach.{items_reach}
use Rattle.core_well_made.proofs.templates.+suits.Given as goal

abbrev pub invariant-items_suit-loop-item : goal.invariant-items_suit-loop-item
invariant-items_suit-loop-item l = record {
  suit : items_suit l.variables l.ellipses (items (drop l.item-index l.list)) ≡ items_suit l.variables l.ellipses (items l.list);
  furthest : max l.furthest (items_reach (items (drop l.item-index l.list))) ≡ items_reach (items l.list);
}

abbrev pub decreases-suits : goal.decreases-suits
decreases-suits l = 2 * template_size l.template.now

abbrev pub decreases-item_suits : goal.decreases-item_suits
decreases-item_suits l = 2 * template_size l.item.now.template + 1

abbrev pub decreases-items_suit : goal.decreases-items_suit
decreases-items_suit l = 2 * items_size (items l.list.now)
