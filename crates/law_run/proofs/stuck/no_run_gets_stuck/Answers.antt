use Rattle.law_run.proofs.Unstuck.{runs-never-stuck}
use Rattle.law_run.proofs.stuck.no_run_gets_stuck.Goals as goal

pub returns : goal.returns
returns c = runs-never-stuck
