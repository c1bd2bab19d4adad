use Rattle.std.proofs.Common.{◌∙◌, arith}
use Rattle.std.proofs.lemmas.Result.{err_from_is_err_and}
use Rattle.eval_template.specs.Binds.{unbound}
use Rattle.eval_template.specs.Instance.{counts}
use Rattle.eval_template.specs.Measure.{item_cost, measure}
use Rattle.eval_template.proofs.Measured.{items_on, items_stop, turns_on, turns_stop}
use Rattle.eval_template.proofs.Sizes.{item_smaller}
use Rattle.eval_template.proofs.Unseen.{costs_same, all_turns}
use Rattle.eval_template.proofs.measure.+template_cost.Goals as goal

pub items_cost-item_cost-requires : goal.items_cost-item_cost-requires
items_cost-item_cost-requires t c = rw c.part-item.is (grind (arith, item_smaller))

pub items_cost-returns-in_err-cost-clause-cost : goal.items_cost-returns-in_err-cost-clause-cost
items_cost-returns-in_err-cost-clause-cost t c =
    let p = err_from_is_err_and c.from_residual.result c.from_residual.ensures.1 in
    rw (p.1, p.2)
    (items_stop c.args.list.now c.loop-part.part-index c.part-item.result c.loop-part-test.true c.part-item.is c.args.context.now.binds.now c.loop-part.turns.items c.loop-part.total _ c.loop-part.invariant.so_far c.in_err-cost.field-0.0 c.in_err-cost.ensures.cost)

pub items_cost-loop-part-preserved : goal.items_cost-loop-part-preserved
items_cost-loop-part-preserved t c = record {
  so_far = rw c.in_ok-cost.ensures.turns
      (items_on c.args.list.now c.loop-part.part-index c.part-item.result c.loop-part-test.true c.part-item.is c.args.context.now.binds.now c.loop-part.turns.items c.loop-part.total _ c.loop-part.invariant.so_far c.in_ok-cost.cost c.sum-total.result c.sum-total.ensures c.in_ok-cost.ensures.cost);
  turns = c.in_ok-cost.ensures.turns ∙ c.loop-part.invariant.turns;
}

pub each_turn-returns-in_err-cost-clause-cost : goal.each_turn-returns-in_err-cost-clause-cost
each_turn-returns-in_err-cost-clause-cost t c =
    let p = err_from_is_err_and c.from_residual-in_err-cost.result c.from_residual-in_err-cost.ensures.1 in
    rw (p.1, p.2)
    (turns_stop (item_cost (measure unbound c.args.context.now.binds.now c.args.template.now) (counts unbound c.args.context.now.binds.now c.args.template.now) c.args.inside) c.args.count c.loop-turn.turn c.loop-turn.turns.items c.loop-turn-test.true c.loop-turn.total _ c.loop-turn.invariant.so_far c.in_err-cost.field-0.0
    (rw c.in_ok-push.ensures.items at c.in_err-cost.ensures.cost))

pub each_turn-loop-turn-preserved : goal.each_turn-loop-turn-preserved
each_turn-loop-turn-preserved t c =
    let e = c.drop_last.ensures c.loop-turn.turns.items c.loop-turn.turn (c.in_ok-cost.ensures.turns ∙ c.in_ok-push.ensures.items) in
    record {
      so_far = rw e
          (turns_on (item_cost (measure unbound c.args.context.now.binds.now c.args.template.now) (counts unbound c.args.context.now.binds.now c.args.template.now) c.args.inside) c.args.count c.loop-turn.turn c.loop-turn.turns.items c.loop-turn-test.true c.loop-turn.total _ c.loop-turn.invariant.so_far c.in_ok-cost.cost c.sum-total.result c.sum-total.ensures
          (rw c.in_ok-push.ensures.items at c.in_ok-cost.ensures.cost));
      turns = e ∙ c.loop-turn.invariant.turns;
    }

pub like_turns-returns-clause-cost : goal.like_turns-returns-clause-cost
like_turns-returns-clause-cost t c =
    all_turns (item_cost (measure unbound c.args.context.now.binds.now c.args.template.now) (counts unbound c.args.context.now.binds.now c.args.template.now) c.args.inside) c.args.turns.now.items
    (costs_same unbound c.args.context.now.binds.now c.args.template.now c.args.inside c.requires) c.args.count c.in_ok-cost.cost c.times.result (omega (arith, c.if-count-eq0.false)) c.times.ensures c.push.new.self.items c.in_ok-cost.ensures.cost
