use Rattle.std.proofs.Common.{ap, refl, sym, ◌∙◌}
use Rattle.std.proofs.lemmas.Result.{err_from_is_err_and}
use Rattle.std.specs.Prelude.{string_bytes}
use Rattle.run_prelude.specs.Prelude.{kept}
use Rattle.run_reuse.specs.Entries.{place_of}
use Rattle.run_reuse.proofs.TurnLemmas.{make_turn, no_turn, reuse_turn, same_count}
use Rattle.run_reuse.proofs.turns.ask_or_expand.Goals as goal

pub returns-in_err-due-clause-turn : goal.returns-in_err-due-clause-turn
returns-in_err-due-clause-turn g c =
    let p = err_from_is_err_and c.from_residual.result c.from_residual.ensures.1 in
    rw (p.1, p.2) (no_turn c.args.turning.now.cache.now (kept c.args.turning.now.implementation.now.prelude) c.args.turned.now c.args.found (g.S.Store.faults c.args.store.now)
    (g.S.Store.told c.args.store.now) (g.S.Store.told c.args.store.now) (g.S.Store.faults c.args.store.now) refl (same_count _))

pub returns-in_err-stored-clause-turn : goal.returns-in_err-stored-clause-turn
returns-in_err-stored-clause-turn g c =
    let p = err_from_is_err_and c.from_residual-in_err-stored.result c.from_residual-in_err-stored.ensures.1 in
    rw (p.1, p.2) (no_turn c.args.turning.now.cache.now (kept c.args.turning.now.implementation.now.prelude) c.args.turned.now c.args.found (g.S.Store.faults c.args.store.now)
    (g.S.Store.told c.args.store.now) (g.S.Store.told c.ask.new.store) (g.S.Store.faults c.ask.new.store) c.ask.ensures.same c.ask.ensures.later)

pub returns-in-Some-clause-turn : goal.returns-in-Some-clause-turn
returns-in-Some-clause-turn g c =
    let is = c.in_ok-due.ensures.1 ∙ ap (place_of c.args.turning.now.cache.now) (sym c.in_ok-due.ensures.0) in
    rw (sym c.in_ok-due.ensures.0) (reuse_turn c.args.turning.now.cache.now (kept c.args.turning.now.implementation.now.prelude) c.args.turned.now c.in_ok-due.due.found (g.S.Store.faults c.args.store.now)
    (string_bytes c.in_ok-due.due.place) is (g.S.Store.faults c.ask.new.store) c.ask.ensures.later
    (g.S.Store.told c.args.store.now) (g.S.Store.told c.ask.new.store) c.in-Some.library c.ask.ensures.same (rw c.in-Some.is at c.in_ok-stored.ensures.answer))

pub returns-in-None-clause-turn : goal.returns-in-None-clause-turn
returns-in-None-clause-turn g c =
    let is = c.in_ok-due.ensures.1 ∙ ap (place_of c.args.turning.now.cache.now) (sym c.in_ok-due.ensures.0) in
    rw (sym c.in_ok-due.ensures.0) (make_turn c.args.turning.now.cache.now (kept c.args.turning.now.implementation.now.prelude) c.args.turned.now c.in_ok-due.due.found (g.S.Store.faults c.args.store.now)
    (string_bytes c.in_ok-due.due.place) is (g.S.Store.faults c.ask.new.store) c.ask.ensures.later (g.S.Store.faults c.expand_and_keep.new.store) c.expand_and_keep.ensures.later
    (g.S.Store.told c.args.store.now) (g.S.Store.told c.ask.new.store) (g.S.Store.told c.expand_and_keep.new.store) c.expand_and_keep.result c.ask.ensures.same
    (rw c.in-None.is at c.in_ok-stored.ensures.answer) c.expand_and_keep.ensures.kept)

pub returns-in-None-clause-fuel : goal.returns-in-None-clause-fuel
returns-in-None-clause-fuel g c = rw (sym c.in_ok-due.ensures.0) c.expand_and_keep.ensures.fuel
