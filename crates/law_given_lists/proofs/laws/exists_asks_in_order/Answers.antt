use Rattle.law_given.proofs.Knows.{knows}
use Rattle.law_given_lists.proofs.ExistsRows.{exists-ended, exists-only}
use Rattle.law_given_lists.proofs.RowValues.{exists-gives}
use Rattle.law_given_lists.proofs.laws.exists_asks_in_order.Goals as goal

pub returns : goal.returns
returns c = record {
  gives = λ w f l more rows s has r give. exists-gives w (knows w has) f l more rows s r give;
  ends = λ w f l more rows s has r give. exists-ended w (knows w has) f l more rows s r give;
  only = λ w f l more rows s t e has r called. exists-only w (knows w has) f l more rows s r e t called;
}
