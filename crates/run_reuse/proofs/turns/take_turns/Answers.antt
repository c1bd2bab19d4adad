use Rattle.std.proofs.lemmas.Result.{err_from_is_err_and}
use Rattle.base_data.specs.declared.fault.Stop.TheVariants as stop
use Rattle.run_derived.specs.Derived.{derived_record}
use Rattle.run_prelude.specs.Prelude.{kept}
use Rattle.run_reuse.proofs.SpendLemmas.{all_turns}
use Rattle.run_reuse.proofs.TurnLemmas.{behind_derived, without_derived}
use Rattle.run_reuse.proofs.turns.take_turns.Goals as goal

pub returns-in_err-derived-clause-turns : goal.returns-in_err-derived-clause-turns
returns-in_err-derived-clause-turns g c =
    let p = err_from_is_err_and c.from_residual.result c.from_residual.ensures.1 in
    let prelude = kept c.args.turning.now.implementation.now.prelude in
    rw (p.1, p.2) (without_derived c.args.turning.now.cache.now prelude (g.S.Store.told c.args.store.now) (g.S.Store.faults c.args.store.now) _ (derived_record prelude) c.in_err-derived.field-0.0 c.in_err-derived.ensures.record)

pub returns-in_err-turned-clause-turns : goal.returns-in_err-turned-clause-turns
returns-in_err-turned-clause-turns g c =
    let p = err_from_is_err_and c.from_residual-in_err-turned.result c.from_residual-in_err-turned.ensures.1 in
    let prelude = kept c.args.turning.now.implementation.now.prelude in
    rw (p.1, p.2) (without_derived c.args.turning.now.cache.now prelude (g.S.Store.told c.args.store.now) (g.S.Store.faults c.args.store.now) _ (derived_record prelude) stop.Memory tt)

pub returns-clause-turns : goal.returns-clause-turns
returns-clause-turns g c =
    let prelude = kept c.args.turning.now.implementation.now.prelude in
    behind_derived c.args.turning.now.cache.now prelude (g.S.Store.told c.args.store.now) (g.S.Store.faults c.args.store.now) _ (g.S.Store.told c.take_each.new.store) (g.S.Store.faults c.take_each.new.store)
    (derived_record prelude) c.in_ok-derived.derived c.in_ok-turned.turned c.take_each.result c.in_ok-derived.ensures.record c.in_ok-turned.ensures c.take_each.ensures.turns

pub returns-clause-fuel : goal.returns-clause-fuel
returns-clause-fuel g c = all_turns (kept c.args.turning.now.implementation.now.prelude) c.in_ok-derived.derived c.in_ok-turned.turned _ c.take_each.result c.args.tally.now.fuel c.derived_record.new.tally.fuel c.take_each.new.tally.fuel c.in_ok-turned.ensures c.in_ok-derived.ensures.fuel c.take_each.ensures.fuel
