use Rattle.law_given_lists.proofs.RowLemmas.{lists-in-rows, one-in-rows}
use Rattle.law_given_lists.proofs.laws.lists_stand_in_rows.Goals as goal

pub returns : goal.returns
returns c = record {
  all = λ cells n columns ls r long. lists-in-rows n r long;
  one = λ cells xs l r. one-in-rows r;
}
