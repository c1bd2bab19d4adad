use Rattle.law_whole.proofs.Evaluations.{evals_never_stuck, calls_never_stuck}
use Rattle.law_whole.proofs.Lines.{libraries_never_stuck}
use Rattle.law_whole.proofs.laws.worlds_stay_whole.Goals as goal

pub returns : goal.returns
returns c = record { evals = evals_never_stuck; calls = calls_never_stuck; libraries = libraries_never_stuck }
