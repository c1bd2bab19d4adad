use Rattle.std.specs.Prelude.{string_bytes}
use Rattle.run_reuse.proofs.Asked.{asked_found, asked_longer, asked_absent, asked_failed, asked_lost}
use Rattle.run_reuse.proofs.turns.ask.Goals as goal

pub returns-in-Ok-Found-clause-answer : goal.returns-in-Ok-Found-clause-answer
returns-in-Ok-Found-clause-answer g c =
    asked_found (g.S.Store.told c.args.store.now) c.args.turning.now.cache.now c.args.turned.now.records c.args.due.now.found (string_bytes c.args.due.now.place)
    (g.S.Store.faults c.args.store.now) (g.S.Store.faults c.get.new.self) c.in-Ok-Found.held.items c.stored_in.result
    (rw (c.in-Ok-Found.field-0-is, c.as_str.ensures.value) at c.in-Ok-Found.ensures.answer) (rw c.deref.ensures.value at c.stored_in.ensures)

pub returns-in-Ok-Longer-clause-answer : goal.returns-in-Ok-Longer-clause-answer
returns-in-Ok-Longer-clause-answer g c =
    asked_longer (g.S.Store.told c.args.store.now) c.args.turning.now.cache.now c.args.turned.now.records c.args.due.now.found (string_bytes c.args.due.now.place)
    (g.S.Store.faults c.args.store.now) (g.S.Store.faults c.get.new.self) (rw (c.in-Ok-Longer.field-0-is, c.as_str.ensures.value) at c.in-Ok-Longer.ensures.answer)

pub returns-in-Ok-Absent-clause-answer : goal.returns-in-Ok-Absent-clause-answer
returns-in-Ok-Absent-clause-answer g c =
    asked_absent (g.S.Store.told c.args.store.now) c.args.turning.now.cache.now c.args.turned.now.records c.args.due.now.found (string_bytes c.args.due.now.place)
    (g.S.Store.faults c.args.store.now) (g.S.Store.faults c.get.new.self) (rw (c.in-Ok-Absent.field-0-is, c.as_str.ensures.value) at c.in-Ok-Absent.ensures.answer)

pub returns-in-Err-Failed-clause-answer : goal.returns-in-Err-Failed-clause-answer
returns-in-Err-Failed-clause-answer g c =
    asked_failed (g.S.Store.told c.args.store.now) c.args.turning.now.cache.now c.args.turned.now.records c.args.due.now.found (string_bytes c.args.due.now.place)
    (g.S.Store.faults c.args.store.now) (g.S.Store.faults c.get.new.self) (c.get.ensures.failed cc)

pub returns-in-Err-Memory-clause-answer : goal.returns-in-Err-Memory-clause-answer
returns-in-Err-Memory-clause-answer g c =
    asked_lost (g.S.Store.told c.args.store.now) c.args.turning.now.cache.now c.args.turned.now.records c.args.due.now.found (string_bytes c.args.due.now.place)
    (g.S.Store.faults c.args.store.now) (g.S.Store.faults c.get.new.self) _
