use Rattle.std.proofs.Common.{List, ap, ◌+◌, ◌∙◌}
use Rattle.std.proofs.lemmas.Result.{err_from_is_err_and}
use Rattle.load_import.specs.Turns.{turns}
use Rattle.load_files.specs.declared.found.Found.{Found}
use Rattle.run_prelude.specs.Prelude.{kept}
use Rattle.run_library.specs.Loaded.{link_next, each_spent}
use Rattle.run_library.proofs.LinkLemmas.{by_value, next_linked}
use Rattle.run_library.proofs.LoadedLemmas.{taken_on, taken_stop}
use Rattle.run_library.proofs.SpentLemmas.{next_records, spent_on, spent_end}
use Rattle.run_library.proofs.loaded.linked_behind.Goals as goal

pub returns-in_err-link_next-clause-linked : goal.returns-in_err-link_next-clause-linked
returns-in_err-link_next-clause-linked g c =
    let p = err_from_is_err_and c.from_residual.result c.from_residual.ensures.1 in
    rw (p.1, p.2) (taken_stop (next_linked (kept c.args.implementation.now.prelude)) c.loop-found.found-iterator c.next.new.self c.in-Some.found c.loop-found.all (turns (link_next (kept c.args.implementation.now.prelude)) c.args.all c.args.libraries) c.in-Some.ensures.steps c.in_err-link_next.field-0.0 c.in_err-link_next.ensures.linked c.loop-found.invariant.given)

pub loop-found-preserved : goal.loop-found-preserved
loop-found-preserved g c = record {
  given = taken_on (next_linked (kept c.args.implementation.now.prelude)) c.loop-found.found-iterator c.next.new.self c.in-Some.found c.loop-found.all (turns (link_next (kept c.args.implementation.now.prelude)) c.args.all c.args.libraries) c.in-Some.ensures.steps c.link_next.new.all c.in_ok-link_next.ensures.linked c.loop-found.invariant.given;
  fuel = spent_on (kept c.args.implementation.now.prelude) c.loop-found.all.records c.link_next.new.all.records c.in-Some.found c.loop-found.found-iterator c.next.new.self _ c.loop-found.tally.fuel c.link_next.new.tally.fuel c.in-Some.ensures.steps (next_records (kept c.args.implementation.now.prelude) c.loop-found.all c.link_next.new.all c.in-Some.found c.in_ok-link_next.ensures.linked) c.in_ok-link_next.ensures.fuel c.loop-found.invariant.fuel;
}

pub loop-found-init : goal.loop-found-init
loop-found-init g c = record {
  given = by_value (kept c.args.implementation.now.prelude) c.args.all c.args.libraries _ (c.into_iter-found-iterator.ensures.into_iter_gives ∙ c.into_values-found-items.ensures);
  fuel = ap (λ (fs : List Found). c.args.tally.now.fuel + each_spent (kept c.args.implementation.now.prelude) c.args.all.records fs) (c.into_iter-found-iterator.ensures.into_iter_gives ∙ c.into_values-found-items.ensures);
}

pub returns-clause-fuel : goal.returns-clause-fuel
returns-clause-fuel g c = spent_end (kept c.args.implementation.now.prelude) c.loop-found.all.records c.loop-found.found-iterator c.args.tally.now.fuel _ c.loop-found.tally.fuel c.in-None.ensures.steps.0 c.loop-found.invariant.fuel
