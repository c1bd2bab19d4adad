use Rattle.law_steady.proofs.Standing.{records_behind, more_before}
use Rattle.law_steady.proofs.laws.records_stand_behind.Goals as goal

pub returns : goal.returns
returns c = record { records = records_behind; more = more_before }
