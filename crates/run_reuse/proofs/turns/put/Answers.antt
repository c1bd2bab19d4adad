use Rattle.std.proofs.Common.{arith}
use Rattle.run_reuse.proofs.TurnLemmas.{put_done, put_failed, put_long}
use Rattle.run_reuse.proofs.turns.put.Goals as goal

pub returns-then-piece-gt-ENTRY_LIMIT-clause-put : goal.returns-then-piece-gt-ENTRY_LIMIT-clause-put
returns-then-piece-gt-ENTRY_LIMIT-clause-put g c = put_long (g.S.Store.faults c.args.store.now) c.args.place.now c.args.piece.now (g.S.Store.told c.args.store.now) tt (omega arith)

pub returns-in-Ok-clause-put : goal.returns-in-Ok-clause-put
returns-in-Ok-clause-put g c =
    put_done (g.S.Store.faults c.args.store.now) (g.S.Store.faults c.put.new.self) c.args.place.now c.args.piece.now (g.S.Store.told c.args.store.now) (g.S.Store.told c.put.new.self) tt (omega arith) c.in-Ok.ensures.puts

pub returns-in-Err-Failed-clause-put : goal.returns-in-Err-Failed-clause-put
returns-in-Err-Failed-clause-put g c =
    put_failed (g.S.Store.faults c.args.store.now) (g.S.Store.faults c.put.new.self) c.args.place.now c.args.piece.now (g.S.Store.told c.args.store.now) (g.S.Store.told c.put.new.self) tt
    (c.put.ensures.failed cc) (rw c.in-Err-Failed.field-0-is at c.in-Err-Failed.ensures.puts)

pub returns-in-Err-Memory-clause-put : goal.returns-in-Err-Memory-clause-put
returns-in-Err-Memory-clause-put g c = rw c.in-Err-Memory.field-0-is at c.in-Err-Memory.ensures.puts
