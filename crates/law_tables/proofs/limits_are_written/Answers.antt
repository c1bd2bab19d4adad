use Rattle.std.proofs.Common.{refl}
use Rattle.law_tables.proofs.limits_are_written.Goals as goal

pub returns : goal.returns
returns c = record {
  bytes_of_a_file = refl;
  bytes_of_a_run = refl;
  libraries = refl;
  nesting_of_a_file = refl;
  nesting = refl;
  height = refl;
  size = refl;
  forms_round_a_form = refl;
  fuel = refl;
}
