use Rattle.std.proofs.Common.{refl, sym}
use Rattle.check_verdict.proofs.RunLaw.{answered}
use Rattle.check_verdict.proofs.run.run_words.Goals as goal

pub returns-in-Ok : goal.returns-in-Ok
returns-in-Ok g c = answered _ _ _ _ _ _ c.in-Some.path.now c.in-Ok.answer c.put_line-in-Ok.result (sym c.in-Some.ensures) c.in-Ok.ensures.gives (refl, refl) (rw c.as_bytes.ensures.value at c.put_line-in-Ok.ensures)
