use Rattle.std.proofs.Common.{sym}
use Rattle.std.proofs.lemmas.Result.{err_from_is_err_and}
use Rattle.run_reuse.specs.Entries.{spelled}
use Rattle.run_reuse.proofs.TurnLemmas.{not_spelled, put_lost, spelling_put}
use Rattle.run_reuse.proofs.turns.keep.Goals as goal

pub returns-in_err-spelling-clause-put : goal.returns-in_err-spelling-clause-put
returns-in_err-spelling-clause-put g c =
    let p = err_from_is_err_and c.from_residual.result c.from_residual.ensures.1 in
    rw p.1 (put_lost (g.S.Store.faults c.args.store.now) (g.S.Store.faults c.args.store.now) c.args.place.now (spelled c.args.entry.now) (g.S.Store.told c.args.store.now) p.0)

pub returns-in-Some-clause-put : goal.returns-in-Some-clause-put
returns-in-Some-clause-put g c =
    spelling_put (g.S.Store.faults c.args.store.now) (g.S.Store.faults c.put.new.store) c.args.place.now c.in-Some.piece.items (spelled c.args.entry.now)
    (g.S.Store.told c.args.store.now) (g.S.Store.told c.put.new.store) c.put.result (rw c.in-Some.is at c.in_ok-spelling.ensures) (rw c.deref.ensures.value at c.put.ensures.put)

pub returns-in-None-clause-put : goal.returns-in-None-clause-put
returns-in-None-clause-put g c = not_spelled (g.S.Store.faults c.args.store.now) c.args.place.now (spelled c.args.entry.now) (g.S.Store.told c.args.store.now) tt (sym (rw c.in-None.is at c.in_ok-spelling.ensures))
