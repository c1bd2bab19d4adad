use Rattle.law_lists.proofs.TemporaryLemmas.{counted, counted_syntax, listed, as_many, no_two, none_older, older_than_later}
use Rattle.law_lists.proofs.laws.temporaries_are_new.Goals as goal

pub returns : goal.returns
returns c = record {
  list = λ cells xs x w r. counted cells w r;
  syntax = counted_syntax;
  made = listed;
  count = as_many;
  apart = no_two;
  older = none_older;
  later = older_than_later;
}
