use Rattle.run_prelude.specs.Prelude.{kept}
use Rattle.run_prelude.proofs.SpentLemmas.{on_ok}
use Rattle.run_library.proofs.SpentLemmas.{program_behind}
use Rattle.run_library.proofs.loaded.program_text.Goals as goal

pub returns-clause-fuel : goal.returns-clause-fuel
returns-clause-fuel g c =
    on_ok c.planned_text-text.result _ (program_behind (kept c.args.implementation.now.prelude) c.args.libraries c.args.found c.in_ok-records.records c.args.tally.now.fuel c.all_records.new.tally.fuel c.record_of_program.new.tally.fuel
    c.in_ok-records.ensures.records c.in_ok-records.ensures.fuel c.in_ok-program.ensures.fuel)
