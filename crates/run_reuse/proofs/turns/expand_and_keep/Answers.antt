use Rattle.std.proofs.lemmas.Result.{err_from_is_err_and}
use Rattle.std.specs.Prelude.{string_bytes}
use Rattle.base_data.specs.declared.fault.Stop.TheVariants as stop
use Rattle.run_prelude.specs.Prelude.{kept}
use Rattle.run_reuse.proofs.TurnLemmas.{keep_done, keep_lost, keeps_nothing}
use Rattle.run_reuse.proofs.turns.expand_and_keep.Goals as goal

pub returns-in_err-unmade-clause-kept : goal.returns-in_err-unmade-clause-kept
returns-in_err-unmade-clause-kept g c =
    let p = err_from_is_err_and c.from_residual.result c.from_residual.ensures.1 in
    rw (p.1, p.2) (keeps_nothing c.args.turning.now.cache.now (kept c.args.turning.now.implementation.now.prelude) c.args.turned.now.records c.args.due.found (string_bytes c.args.due.place)
    (g.S.Store.faults c.args.store.now) (g.S.Store.told c.args.store.now) (g.S.Store.faults c.args.store.now) stop.Memory tt)

pub returns-in_err-stored-clause-kept : goal.returns-in_err-stored-clause-kept
returns-in_err-stored-clause-kept g c =
    let p = err_from_is_err_and c.from_residual-in_err-stored.result c.from_residual-in_err-stored.ensures.1 in
    rw (p.1, p.2) (keeps_nothing c.args.turning.now.cache.now (kept c.args.turning.now.implementation.now.prelude) c.args.turned.now.records c.args.due.found (string_bytes c.args.due.place)
    (g.S.Store.faults c.args.store.now) (g.S.Store.told c.args.store.now) (g.S.Store.faults c.args.store.now) c.in_err-stored.field-0.0 c.in_err-stored.ensures.record)

pub returns-in_err-keep-clause-kept : goal.returns-in_err-keep-clause-kept
returns-in_err-keep-clause-kept g c =
    let p = err_from_is_err_and c.from_residual-in_err-keep.result c.from_residual-in_err-keep.ensures.1 in
    rw (p.1, p.2) (keep_lost c.args.turning.now.cache.now (kept c.args.turning.now.implementation.now.prelude) c.args.turned.now.records c.args.due.found (string_bytes c.args.due.place)
    (g.S.Store.faults c.args.store.now) (g.S.Store.told c.args.store.now) (g.S.Store.told c.keep.new.store) (g.S.Store.faults c.keep.new.store) c.with-entry.result _ c.in_err-keep.ensures.put)

pub returns-clause-kept : goal.returns-clause-kept
returns-clause-kept g c =
    keep_done c.args.turning.now.cache.now (kept c.args.turning.now.implementation.now.prelude) c.args.turned.now.records c.args.due.found (string_bytes c.args.due.place)
    (g.S.Store.faults c.args.store.now) (g.S.Store.told c.args.store.now) (g.S.Store.told c.keep.new.store) (g.S.Store.faults c.keep.new.store) c.with-entry.result
    c.of_expansion.result c.in_ok-stored.stored tt c.of_expansion.ensures (rw c.in_ok-unmade.ensures at c.with-entry.ensures) c.in_ok-stored.ensures.record (rw c.as_str.ensures.value at c.in_ok-keep.ensures.put)
