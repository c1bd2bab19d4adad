use Rattle.std.proofs.Common.{sym}
use Rattle.run_prelude.proofs.SpentLemmas.{on_ok}
use Rattle.run_reuse.proofs.expansion.text_after.Goals as goal

pub returns-clause-fuel : goal.returns-clause-fuel
returns-clause-fuel g c = rw (sym c.new-records.ensures) (on_ok c.planned_text.result _ c.in_ok-program.ensures.fuel)
