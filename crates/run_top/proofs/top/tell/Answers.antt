use Rattle.run_top.specs.Headline.{reported, unreported}
use Rattle.run_top.proofs.Sinks.{broke}
use Rattle.run_top.proofs.top.tell.Goals as goal

pub returns-in-Ok : goal.returns-in-Ok
returns-in-Ok g c = reported (c.in-Ok.ensures.gains, c.in-Ok.ensures.counted)

pub returns-in-Err : goal.returns-in-Err
returns-in-Err g c = unreported (broke _ _ _ c.in-Err.ensures.short c.in-Err.ensures.gains c.in-Err.ensures.failed c.in-Err.ensures.counted)
