use Rattle.law_imports.proofs.VersionLemmas.{numbers_make_no_part, number_fits_itself, signs_compare, and_fits_numbers, or_fits_numbers, not_fits_numbers}
use Rattle.law_imports.proofs.numbers_fit_by_parts.Goals as goal

pub returns : goal.returns
returns c = record {
  any_number = numbers_make_no_part;
  itself = number_fits_itself;
  compared = signs_compare;
  all = and_fits_numbers;
  one = or_fits_numbers;
  none = not_fits_numbers;
}
