use Rattle.std.proofs.Common.{arith, ◌∙◌}
use Rattle.std.proofs.lemmas.Result.{err_from_is_err_and}
use Rattle.run_prelude.specs.Prelude.{kept}
use Rattle.run_reuse.proofs.FuelLemmas.{fuel_end, fuel_first, fuel_on}
use Rattle.run_reuse.proofs.Goes.{loop_end, loop_first, loop_on, loop_stops}
use Rattle.run_reuse.proofs.TurnLemmas.{same_count}
use Rattle.run_reuse.proofs.turns.take_each.Goals as goal

pub loop-found-init : goal.loop-found-init
loop-found-init g c = record {
  later = same_count _;
  told = loop_first c.args.turning.now.cache.now (kept c.args.turning.now.implementation.now.prelude) (g.S.Store.told c.args.store.now) c.args.turned (g.S.Store.faults c.args.store.now) _ _ (c.into_iter-found-iterator.ensures.into_iter_gives ∙ c.into_values-found-items.ensures);
  fuel = fuel_first (kept c.args.turning.now.implementation.now.prelude) c.args.turned _ _ c.args.tally.now.fuel (c.into_iter-found-iterator.ensures.into_iter_gives ∙ c.into_values-found-items.ensures);
}

pub loop-found-preserved : goal.loop-found-preserved
loop-found-preserved g c = record {
  later = omega (arith, c.loop-found.invariant.later, c.take_turn.ensures.later);
  told = loop_on c.args.turning.now.cache.now (kept c.args.turning.now.implementation.now.prelude) (g.S.Store.told c.args.store.now) (g.S.Store.told c.loop-found.store) c.args.turned c.loop-found.turned
      (g.S.Store.faults c.args.store.now) (g.S.Store.faults c.loop-found.store) _ c.loop-found.found-iterator c.loop-found.invariant.told (g.S.Store.told c.take_turn.new.store)
      c.in-Some.found c.next.new.self (g.S.Store.faults c.take_turn.new.store) c.in-Some.ensures.steps c.in_ok-turned.turned c.in_ok-turned.ensures.turn;
  fuel = fuel_on (kept c.args.turning.now.implementation.now.prelude) c.args.turned c.loop-found.turned c.in_ok-turned.turned _ c.loop-found.found-iterator c.next.new.self c.in-Some.found c.args.tally.now.fuel c.loop-found.tally.fuel c.take_turn.new.tally.fuel c.in-Some.ensures.steps c.in_ok-turned.ensures.fuel c.loop-found.invariant.fuel;
}

pub returns-in_err-turned-clause-turns : goal.returns-in_err-turned-clause-turns
returns-in_err-turned-clause-turns g c =
    let p = err_from_is_err_and c.from_residual.result c.from_residual.ensures.1 in
    rw (p.1, p.2) (loop_stops c.args.turning.now.cache.now (kept c.args.turning.now.implementation.now.prelude) (g.S.Store.told c.args.store.now) (g.S.Store.told c.loop-found.store) c.args.turned c.loop-found.turned
    (g.S.Store.faults c.args.store.now) (g.S.Store.faults c.loop-found.store) _ c.loop-found.found-iterator c.loop-found.invariant.told (g.S.Store.told c.take_turn.new.store)
    c.in-Some.found c.next.new.self (g.S.Store.faults c.take_turn.new.store) c.in-Some.ensures.steps c.in_err-turned.field-0.0 c.in_err-turned.ensures.turn)

pub returns-clause-turns : goal.returns-clause-turns
returns-clause-turns g c =
    loop_end c.args.turning.now.cache.now (kept c.args.turning.now.implementation.now.prelude) (g.S.Store.told c.args.store.now) (g.S.Store.told c.loop-found.store) c.args.turned c.loop-found.turned
    (g.S.Store.faults c.args.store.now) (g.S.Store.faults c.loop-found.store) _ c.loop-found.found-iterator c.loop-found.invariant.told c.in-None.ensures.steps.0

pub returns-clause-fuel : goal.returns-clause-fuel
returns-clause-fuel g c = fuel_end (kept c.args.turning.now.implementation.now.prelude) c.args.turned c.loop-found.turned _ c.loop-found.found-iterator c.args.tally.now.fuel c.loop-found.tally.fuel c.in-None.ensures.steps.0 c.loop-found.invariant.fuel
