use Rattle.std.specs.Prelude.{codes}
use Rattle.core_records.proofs.Binds.{left_marks}
use Rattle.core_records.proofs.laws.descriptors_have_the_mark_of_the_use.Goals as goal

pub returns : goal.returns
returns c = record { type_descriptor = left_marks (codes "rtd"); constructor_descriptor = left_marks (codes "rcd") }
