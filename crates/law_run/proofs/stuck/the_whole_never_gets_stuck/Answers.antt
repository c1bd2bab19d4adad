use Rattle.law_run.proofs.Unstuck.{whole-never-stuck}
use Rattle.law_run.proofs.stuck.the_whole_never_gets_stuck.Goals as goal

pub returns : goal.returns
returns c = whole-never-stuck
