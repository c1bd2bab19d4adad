use Rattle.law_given.proofs.Knows.{knows}
use Rattle.law_given_lists.proofs.FoldLeftRows.{fold-left-ended, fold-left-only}
use Rattle.law_given_lists.proofs.RowValues.{left-gives}
use Rattle.law_given_lists.proofs.laws.fold_left_goes_from_the_left.Goals as goal

pub returns : goal.returns
returns c = record {
  gives = λ w f z l more rows s has r give. left-gives w (knows w has) f z l more rows s r give;
  ends = λ w f z l more rows s has r give. fold-left-ended w (knows w has) f z l more rows s r give;
  only = λ w f z l more rows s t e has r called. fold-left-only w (knows w has) f z l more rows s r e t called;
}
