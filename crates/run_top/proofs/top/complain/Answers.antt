use Rattle.std.proofs.Common.{refl}
use Rattle.run_top.specs.Headline.{said, no_line}
use Rattle.run_top.proofs.Sinks.{broke}
use Rattle.run_top.proofs.top.complain.Goals as goal

pub returns-in-Ok : goal.returns-in-Ok
returns-in-Ok g c = said (refl, refl) (c.in-Ok.ensures.gains, c.in-Ok.ensures.counted)

pub returns-in-Err : goal.returns-in-Err
returns-in-Err g c = no_line (refl, refl) (broke _ _ _ c.in-Err.ensures.short c.in-Err.ensures.gains c.in-Err.ensures.failed c.in-Err.ensures.counted)
