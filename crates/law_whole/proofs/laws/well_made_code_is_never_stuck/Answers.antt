use Rattle.law_whole.proofs.Records.{well_made_never_stuck, records_never_stuck}
use Rattle.law_whole.proofs.laws.well_made_code_is_never_stuck.Goals as goal

pub returns : goal.returns
returns c = record { code = well_made_never_stuck; records = records_never_stuck }
