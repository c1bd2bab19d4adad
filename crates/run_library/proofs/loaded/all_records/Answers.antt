use Rattle.run_prelude.specs.Prelude.{kept}
use Rattle.run_library.proofs.SpentLemmas.{all_behind}
use Rattle.run_library.proofs.loaded.all_records.Goals as goal

pub returns-clause-fuel : goal.returns-clause-fuel
returns-clause-fuel g c =
    all_behind (kept c.args.implementation.now.prelude) c.records_behind.result c.in_ok-derived.derived c.in_ok-records.records _ c.args.tally.now.fuel c.derived_record.new.tally.fuel c.records_behind.new.tally.fuel
    c.in_ok-derived.ensures.record c.in_ok-records.ensures c.in_ok-derived.ensures.fuel c.records_behind.ensures.fuel
