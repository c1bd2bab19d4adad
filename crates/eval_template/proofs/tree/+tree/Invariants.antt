use Rattle.std.proofs.Common.{◌≡◌, ◌+◌, ◌-◌, ◌*◌, [], drop}
use Rattle.core_language.specs.Template.{template_size, items_size}
use Rattle.core_language.specs.TemplateView.{items}
use Rattle.eval_template.specs.Binds.{unbound}
use Rattle.eval_template.specs.Instance.{counts}
use Rattle.eval_template.specs.Trees.{tree_of, trees_of, item_trees, each_turn}
use Rattle.eval_template.proofs.tree.+tree.Given as goal

abbrev pub invariant-trees-loop-part : goal.invariant-trees-loop-part
invariant-trees-loop-part l = record {
  gives : trees_of l.context.binds.now (items (drop l.part-index l.list)) l.turns.items l.done.items ≡ trees_of l.context.binds.now (items l.list) l.initial.turns.items [];
  turns : l.turns.items ≡ l.initial.turns.items;
}

abbrev pub invariant-each_turn-loop-turn : goal.invariant-each_turn-loop-turn
invariant-each_turn-loop-turn l = record {
  gives : each_turn (item_trees (tree_of l.context.binds.now l.repetition.part.template.now) (counts unbound l.context.binds.now l.repetition.part.template.now) l.repetition.part.ellipses) (l.repetition.count - l.turn) l.turn l.turns.items l.done.items
      ≡ each_turn (item_trees (tree_of l.context.binds.now l.repetition.part.template.now) (counts unbound l.context.binds.now l.repetition.part.template.now) l.repetition.part.ellipses) l.repetition.count 0 l.initial.turns.items l.fn.done.items;
  turns : l.turns.items ≡ l.initial.turns.items;
}

abbrev pub decreases-tree : goal.decreases-tree
decreases-tree l = 4 * template_size l.template.now

abbrev pub decreases-ending : goal.decreases-ending
decreases-ending l = 4 * template_size l.template.now + 1

abbrev pub decreases-trees : goal.decreases-trees
decreases-trees l = 4 * items_size (items l.list.now)

abbrev pub decreases-item : goal.decreases-item
decreases-item l = 4 * (template_size l.part.now.template.now + l.part.now.ellipses) + 2

abbrev pub decreases-each_turn : goal.decreases-each_turn
decreases-each_turn l = 4 * (template_size l.repetition.now.part.template.now + l.repetition.now.part.ellipses) + 3
