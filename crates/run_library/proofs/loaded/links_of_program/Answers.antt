use Rattle.run_prelude.specs.Prelude.{kept}
use Rattle.run_library.proofs.SpentLemmas.{all_gathered, program_behind}
use Rattle.run_library.proofs.loaded.links_of_program.Goals as goal

pub returns-clause-fuel : goal.returns-clause-fuel
returns-clause-fuel g c =
    program_behind (kept c.args.implementation.now.prelude) c.args.libraries c.args.found c.in_ok-all.all.records c.args.tally.now.fuel c.all_linked.new.tally.fuel c.expand_program.new.tally.fuel
    (all_gathered (kept c.args.implementation.now.prelude) c.in_ok-all.all c.args.libraries c.in_ok-all.ensures.linked) c.in_ok-all.ensures.fuel c.in_ok-linked.ensures.fuel
