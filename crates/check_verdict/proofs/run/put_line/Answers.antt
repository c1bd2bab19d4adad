use Rattle.check_verdict.proofs.RunLaw.{broke}
use Rattle.check_verdict.specs.Headline.{put}
use Rattle.check_verdict.proofs.run.put_line.Goals as goal

pub returns-in-Ok : goal.returns-in-Ok
returns-in-Ok g c = put (c.in-Ok.ensures.gains, c.in-Ok.ensures.counted)

pub returns-in-Err : goal.returns-in-Err
returns-in-Err g c = broke _ _ _ _ c.in-Err.ensures.short c.in-Err.ensures.gains c.in-Err.ensures.failed c.in-Err.ensures.counted
