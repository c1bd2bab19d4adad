use Rattle.law_eval_faults.proofs.Caused.{faults-are-of-these}
use Rattle.law_eval_faults.proofs.Meeting.{causes-are-faults}
use Rattle.law_eval_faults.proofs.laws.faults_of_evaluations_are_told.Goals as goal

pub returns : goal.returns
returns c = record { only = faults-are-of-these; told = causes-are-faults }
