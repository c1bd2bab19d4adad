use Rattle.law_run.proofs.RunLemmas.{all_records_stand}
use Rattle.law_run.proofs.records_stand.Goals as goal

pub returns : goal.returns
returns c = all_records_stand
