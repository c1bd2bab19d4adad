use Rattle.law_stuck.proofs.Told.{evaluations_tell}
use Rattle.law_stuck.proofs.laws.evaluations_tell_other_faults.Goals as goal

pub returns : goal.returns
returns c = evaluations_tell
