use Rattle.law_hygiene.proofs.Using.{input_is, constant_is, pairs_are, parts_are, datum_is, untouched_changed}
use Rattle.law_hygiene.proofs.outputs_are_told.Goals as goal

pub returns : goal.returns
returns c = record { input = input_is; constant = constant_is; pairs = pairs_are; parts = parts_are; datum = datum_is; other_changes = untouched_changed }
