use Rattle.law_hygiene.proofs.Rowing.{without_new, without-with_row}
use Rattle.law_hygiene.proofs.Using.{taken_out, untouched, all_out}
use Rattle.law_hygiene.proofs.nothing_else_changes.Goals as goal

pub returns : goal.returns
returns c = record { introduced = taken_out; untouched = untouched; output = all_out; new = without_new; one_more = without-with_row }
