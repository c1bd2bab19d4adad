use Rattle.core_records.proofs.Binds.{record_binds}
use Rattle.core_records.proofs.laws.a_record_type_binds_its_names.Goals as goal

pub returns : goal.returns
returns c = record_binds
