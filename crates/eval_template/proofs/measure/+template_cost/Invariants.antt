use Rattle.std.proofs.Common.{◌≡◌, ◌+◌, ◌-◌, ◌*◌, drop}
use Rattle.core_language.specs.Template.{template_size, items_size}
use Rattle.core_language.specs.TemplateView.{items}
use Rattle.eval_template.specs.Binds.{unbound}
use Rattle.eval_template.specs.Instance.{counts}
use Rattle.eval_template.specs.Measure.{turns_cost, item_cost, measure, items_cost}
use Rattle.eval_template.proofs.Measured.{SoFar}
use Rattle.eval_template.proofs.measure.+template_cost.Given as goal

abbrev pub invariant-items_cost-loop-part : goal.invariant-items_cost-loop-part
invariant-items_cost-loop-part l = record {
  so_far : SoFar l.total (items_cost unbound l.context.binds.now (items (drop l.part-index l.list)) l.turns.items) (items_cost unbound l.context.binds.now (items l.list) l.initial.turns.items);
  turns : l.turns.items ≡ l.initial.turns.items;
}

abbrev pub invariant-each_turn-loop-turn : goal.invariant-each_turn-loop-turn
invariant-each_turn-loop-turn l = record {
  so_far : SoFar l.total (turns_cost (item_cost (measure unbound l.context.binds.now l.template) (counts unbound l.context.binds.now l.template) l.inside) (l.count - l.turn) l.turn l.turns.items)
      (turns_cost (item_cost (measure unbound l.context.binds.now l.template) (counts unbound l.context.binds.now l.template) l.inside) l.count 0 l.initial.turns.items);
  turns : l.turns.items ≡ l.initial.turns.items;
}

abbrev pub decreases-template_cost : goal.decreases-template_cost
decreases-template_cost l = 4 * template_size l.template.now

abbrev pub decreases-items_cost : goal.decreases-items_cost
decreases-items_cost l = 4 * items_size (items l.list.now)

abbrev pub decreases-item_cost : goal.decreases-item_cost
decreases-item_cost l = 4 * (template_size l.template.now + l.ellipses) + 2

abbrev pub decreases-turns_cost : goal.decreases-turns_cost
decreases-turns_cost l = 4 * (template_size l.template.now + l.inside) + 4

abbrev pub decreases-each_turn : goal.decreases-each_turn
decreases-each_turn l = 4 * (template_size l.template.now + l.inside) + 3

abbrev pub decreases-like_turns : goal.decreases-like_turns
decreases-like_turns l = 4 * (template_size l.template.now + l.inside) + 3
