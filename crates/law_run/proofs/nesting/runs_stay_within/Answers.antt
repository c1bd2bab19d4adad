use Rattle.law_run.proofs.Records.{runs-within}
use Rattle.law_run.proofs.Texts.{prelude-fits}
use Rattle.law_run.proofs.nesting.runs_stay_within.Goals as goal

pub returns : goal.returns
returns c = record { prelude = prelude-fits; runs = runs-within }
