use Rattle.std.proofs.Common.{List, ap, ◌+◌, ◌∙◌}
use Rattle.std.proofs.lemmas.Result.{err_from_is_err_and}
use Rattle.load_import.specs.Turns.{turns}
use Rattle.load_files.specs.declared.found.Found.{Found}
use Rattle.run_prelude.specs.Prelude.{kept}
use Rattle.run_library.specs.Loaded.{expand_next, each_spent}
use Rattle.run_library.proofs.LoadedLemmas.{by_value, next_found, taken_on, taken_stop}
use Rattle.run_library.proofs.SpentLemmas.{spent_on, spent_end}
use Rattle.run_library.proofs.loaded.records_behind.Goals as goal

pub returns-in_err-expand_next-clause-records : goal.returns-in_err-expand_next-clause-records
returns-in_err-expand_next-clause-records g c =
    let p = err_from_is_err_and c.from_residual.result c.from_residual.ensures.1 in
    rw (p.1, p.2) (taken_stop (next_found (kept c.args.implementation.now.prelude)) c.loop-found.found-iterator c.next.new.self c.in-Some.found c.loop-found.records (turns (expand_next (kept c.args.implementation.now.prelude)) c.args.records c.args.libraries) c.in-Some.ensures.steps c.in_err-expand_next.field-0.0 c.in_err-expand_next.ensures.records c.loop-found.invariant.given)

pub loop-found-preserved : goal.loop-found-preserved
loop-found-preserved g c = record {
  given = taken_on (next_found (kept c.args.implementation.now.prelude)) c.loop-found.found-iterator c.next.new.self c.in-Some.found c.loop-found.records (turns (expand_next (kept c.args.implementation.now.prelude)) c.args.records c.args.libraries) c.in-Some.ensures.steps c.expand_next.new.records c.in_ok-expand_next.ensures.records c.loop-found.invariant.given;
  fuel = spent_on (kept c.args.implementation.now.prelude) c.loop-found.records c.expand_next.new.records c.in-Some.found c.loop-found.found-iterator c.next.new.self _ c.loop-found.tally.fuel c.expand_next.new.tally.fuel c.in-Some.ensures.steps c.in_ok-expand_next.ensures.records c.in_ok-expand_next.ensures.fuel c.loop-found.invariant.fuel;
}

pub loop-found-init : goal.loop-found-init
loop-found-init g c = record {
  given = by_value (kept c.args.implementation.now.prelude) c.args.records c.args.libraries _ (c.into_iter-found-iterator.ensures.into_iter_gives ∙ c.into_values-found-items.ensures);
  fuel = ap (λ (fs : List Found). c.args.tally.now.fuel + each_spent (kept c.args.implementation.now.prelude) c.args.records fs) (c.into_iter-found-iterator.ensures.into_iter_gives ∙ c.into_values-found-items.ensures);
}

pub returns-clause-fuel : goal.returns-clause-fuel
returns-clause-fuel g c = spent_end (kept c.args.implementation.now.prelude) c.loop-found.records c.loop-found.found-iterator c.args.tally.now.fuel _ c.loop-found.tally.fuel c.in-None.ensures.steps.0 c.loop-found.invariant.fuel
