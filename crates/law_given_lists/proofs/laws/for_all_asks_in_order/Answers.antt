use Rattle.law_given.proofs.Knows.{knows}
use Rattle.law_given_lists.proofs.ForAllRows.{for-all-ended, for-all-only}
use Rattle.law_given_lists.proofs.RowValues.{for-all-gives}
use Rattle.law_given_lists.proofs.laws.for_all_asks_in_order.Goals as goal

pub returns : goal.returns
returns c = record {
  gives = λ w f l more rows s has r give. for-all-gives w (knows w has) f l more rows s r give;
  ends = λ w f l more rows s has r give. for-all-ended w (knows w has) f l more rows s r give;
  only = λ w f l more rows s t e has r called. for-all-only w (knows w has) f l more rows s r e t called;
}
