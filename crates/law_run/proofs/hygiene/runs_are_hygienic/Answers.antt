use Rattle.law_run.proofs.HygienicRuns.{parts-hygienic, runs-hygienic}
use Rattle.law_run.proofs.hygiene.runs_are_hygienic.Goals as goal

pub returns : goal.returns
returns c = record { runs = runs-hygienic; parts = parts-hygienic }
