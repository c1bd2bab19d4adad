use Rattle.run_prelude.specs.Prelude.{kept}
use Rattle.run_reuse.proofs.SpendLemmas.{turns_spend}
use Rattle.run_reuse.proofs.TextLemmas.{behind_turns, where_stopped}
use Rattle.run_reuse.specs.Texts.{found_in}
use Rattle.run_reuse.proofs.texts.write_program.Goals as goal

pub returns-in-Ok-clause-answers : goal.returns-in-Ok-clause-answers
returns-in-Ok-clause-answers g c =
    behind_turns c.args.turning.now.cache.now (kept c.args.turning.now.implementation.now.prelude) (g.S.Store.told c.args.store.now) (g.S.Store.told c.take_turns.new.store) c.args.loaded.came (found_in c.args.loaded.libraries)
    (g.S.Store.faults c.args.store.now) (g.S.Store.faults c.take_turns.new.store) c.in-Ok.turned c.text_behind.result c.in-Ok.ensures.turns c.text_behind.ensures.text

pub returns-in-Err-clause-answers : goal.returns-in-Err-clause-answers
returns-in-Err-clause-answers g c =
    where_stopped c.args.turning.now.cache.now (kept c.args.turning.now.implementation.now.prelude) (g.S.Store.told c.args.store.now) (g.S.Store.told c.take_turns.new.store) c.args.loaded.came (found_in c.args.loaded.libraries)
    (g.S.Store.faults c.args.store.now) (g.S.Store.faults c.take_turns.new.store) c.in-Err.stop c.in-Err.ensures.turns

pub returns-in-Ok-clause-fuel : goal.returns-in-Ok-clause-fuel
returns-in-Ok-clause-fuel g c =
    turns_spend c.args.turning.now.cache.now (kept c.args.turning.now.implementation.now.prelude) (g.S.Store.told c.args.store.now) (g.S.Store.told c.take_turns.new.store) c.args.loaded.came (found_in c.args.loaded.libraries)
    (g.S.Store.faults c.args.store.now) (g.S.Store.faults c.take_turns.new.store) c.args.tally.now.fuel c.take_turns.new.tally.fuel c.text_behind.new.tally.fuel c.in-Ok.turned c.text_behind.result c.in-Ok.ensures.turns c.text_behind.ensures.text
    c.in-Ok.ensures.fuel c.text_behind.ensures.fuel
