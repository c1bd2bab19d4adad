use Rattle.core_naming.proofs.Decimal.{number_one, number_more, number_reads, number_decimal, number_injective}
use Rattle.law_names.proofs.numbers_are_in_decimal.Goals as goal

pub returns-clause-written : goal.returns-clause-written
returns-clause-written c n = record {
  one = number_one n;
  more = number_more n;
  digits = (number_reads n).0;
  value = (number_reads n).1;
  rust = number_decimal n;
}

pub returns-clause-told : goal.returns-clause-told
returns-clause-told c = number_injective
