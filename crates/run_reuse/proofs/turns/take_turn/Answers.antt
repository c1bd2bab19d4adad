use Rattle.std.proofs.lemmas.Result.{err_from_is_err_and}
use Rattle.run_prelude.specs.Prelude.{kept}
use Rattle.run_reuse.proofs.TurnLemmas.{turn_lost, turn_stops, turn_taken}
use Rattle.run_reuse.proofs.turns.take_turn.Goals as goal

pub returns-in_err-recorded-clause-turn : goal.returns-in_err-recorded-clause-turn
returns-in_err-recorded-clause-turn g c =
    let p = err_from_is_err_and c.from_residual.result c.from_residual.ensures.1 in
    rw (p.1, p.2) (turn_stops c.args.turning.now.cache.now (kept c.args.turning.now.implementation.now.prelude) c.args.turned c.args.found (g.S.Store.faults c.args.store.now)
    (g.S.Store.told c.args.store.now) (g.S.Store.told c.ask_or_expand.new.store) (g.S.Store.faults c.ask_or_expand.new.store) c.in_err-recorded.field-0.0 c.in_err-recorded.ensures.turn)

pub returns-in_err-turned-clause-turn : goal.returns-in_err-turned-clause-turn
returns-in_err-turned-clause-turn g c =
    let p = err_from_is_err_and c.from_residual-in_err-turned.result c.from_residual-in_err-turned.ensures.1 in
    rw (p.1, p.2) (turn_lost c.args.turning.now.cache.now (kept c.args.turning.now.implementation.now.prelude) c.args.turned c.args.found (g.S.Store.faults c.args.store.now)
    (g.S.Store.told c.args.store.now) (g.S.Store.told c.ask_or_expand.new.store) (g.S.Store.faults c.ask_or_expand.new.store) c.in_ok-recorded.recorded c.in_ok-recorded.ensures.turn)

pub returns-clause-turn : goal.returns-clause-turn
returns-clause-turn g c = turn_taken c.args.turning.now.cache.now (kept c.args.turning.now.implementation.now.prelude) c.args.turned c.args.found (g.S.Store.faults c.args.store.now)
    (g.S.Store.told c.args.store.now) (g.S.Store.told c.ask_or_expand.new.store) (g.S.Store.faults c.ask_or_expand.new.store) c.in_ok-recorded.recorded c.in_ok-turned.turned c.in_ok-turned.ensures c.in_ok-recorded.ensures.turn

pub returns-clause-fuel : goal.returns-clause-fuel
returns-clause-fuel g c = record { library = c.in_ok-recorded.recorded.library; reused = c.in_ok-recorded.recorded.reused; is = c.in_ok-turned.ensures; rose = c.in_ok-recorded.ensures.fuel }
