use Rattle.law_whole.proofs.Stuck.{never_stuck, applied_never_stuck}
use Rattle.law_whole.proofs.laws.whole_worlds_are_never_stuck.Goals as goal

pub returns : goal.returns
returns c = record { eval = never_stuck; applied = applied_never_stuck }
