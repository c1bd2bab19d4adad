use Rattle.std.proofs.Common.{◌-◌, None, sym, ◌∙◌, arith}
use Rattle.eval_template.specs.Binds.{unbound}
use Rattle.eval_template.specs.Instance.{counts}
use Rattle.eval_template.specs.Lengths.{agree, lengths}
use Rattle.eval_template.specs.Trees.{ok_of, tree_of, item_trees}
use Rattle.eval_template.proofs.Sizes.{item_smaller}
use Rattle.eval_template.proofs.TreeParts.{trees_on, turn_on, turn_none, turned_by}
use Rattle.eval_template.proofs.tree.+tree.Goals as goal

pub trees-item-requires : goal.trees-item-requires
trees-item-requires t c = rw c.part-item.is (grind (arith, item_smaller))

pub trees-loop-part-preserved : goal.trees-loop-part-preserved
trees-loop-part-preserved t c = record {
  gives = rw c.in_ok-more.ensures.turns
      (trees_on c.args.list.now c.loop-part.part-index c.part-item.result c.loop-part-test.true c.part-item.is c.args.context.now.binds.now c.loop-part.turns.items c.loop-part.done.items _ c.in-Some.more.items
      (rw c.in-Some.is at c.in_ok-more.ensures.gives) c.loop-part.invariant.gives);
  turns = c.in_ok-more.ensures.turns ∙ c.loop-part.invariant.turns;
}

pub each_turn-returns-in_default-clause-gives : goal.each_turn-returns-in_default-clause-gives
each_turn-returns-in_default-clause-gives t c =
    turn_none (item_trees (tree_of c.args.context.now.binds.now c.args.repetition.now.part.template.now) (counts unbound c.args.context.now.binds.now c.args.repetition.now.part.template.now) c.args.repetition.now.part.ellipses) c.args.repetition.now.count c.loop-turn.turn c.loop-turn.turns.items c.loop-turn.done.items _ c.loop-turn-test.true
    (rw (c.in_default.is, c.in_ok-push.ensures.items) at c.in_ok-more.ensures.gives) c.loop-turn.invariant.gives

pub each_turn-loop-turn-preserved : goal.each_turn-loop-turn-preserved
each_turn-loop-turn-preserved t c =
    let e = c.drop_last.ensures c.loop-turn.turns.items c.loop-turn.turn (c.in_ok-more.ensures.turns ∙ c.in_ok-push.ensures.items) in
    record {
      gives = rw e
          (turn_on (item_trees (tree_of c.args.context.now.binds.now c.args.repetition.now.part.template.now) (counts unbound c.args.context.now.binds.now c.args.repetition.now.part.template.now) c.args.repetition.now.part.ellipses) c.args.repetition.now.count c.loop-turn.turn c.loop-turn.turns.items c.loop-turn.done.items _ c.loop-turn-test.true c.in-Some.more.items
          (rw (c.in-Some.is, c.in_ok-push.ensures.items) at c.in_ok-more.ensures.gives) c.loop-turn.invariant.gives);
      turns = e ∙ c.loop-turn.invariant.turns;
    }

pub item-returns-clause-gives : goal.item-returns-clause-gives
item-returns-clause-gives t c =
    let binds = c.args.context.now.binds.now in
    let u = c.args.part.now.template.now in
    let e = c.args.part.now.ellipses in
    let given = sym c.in-Some-2.is ∙ c.in_ok-count.ensures ∙ (λ i. ok_of (agree None (lengths unbound binds (c.as_slice.ensures.value i) (c.from.ensures i) u))) in
    rw (sym (turned_by (tree_of binds u) (counts unbound binds u) e (e - 1) c.args.turns.now.items c.args.done.items c.in-Some-2.count c.unwrap_or.result (omega arith) given c.unwrap_or.ensures))
    c.each_turn.ensures.gives
