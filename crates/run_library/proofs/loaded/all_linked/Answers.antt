use Rattle.run_prelude.specs.Prelude.{kept}
use Rattle.run_library.proofs.SpentLemmas.{all_linked_behind}
use Rattle.run_library.proofs.loaded.all_linked.Goals as goal

pub returns-clause-fuel : goal.returns-clause-fuel
returns-clause-fuel g c =
    all_linked_behind (kept c.args.implementation.now.prelude) c.linked_behind.result c.in_ok-derived.derived _ c.args.tally.now.fuel c.derived_alone.new.tally.fuel c.linked_behind.new.tally.fuel
    c.in_ok-derived.ensures.linked c.in_ok-derived.ensures.fuel c.linked_behind.ensures.fuel
