use Rattle.law_given.proofs.Knows.{knows}
use Rattle.law_given_lists.proofs.FoldRightRows.{fold-right-ended, fold-right-only}
use Rattle.law_given_lists.proofs.RowValues.{right-gives}
use Rattle.law_given_lists.proofs.laws.fold_right_goes_from_the_right.Goals as goal

pub returns : goal.returns
returns c = record {
  gives = λ w f z l more rows s has r give. right-gives w (knows w has) f z l more rows s r give;
  ends = λ w f z l more rows s has r give. fold-right-ended w (knows w has) f z l more rows s r give;
  only = λ w f z l more rows s t e has r called. fold-right-only w (knows w has) f z l more rows s r e t called;
}
