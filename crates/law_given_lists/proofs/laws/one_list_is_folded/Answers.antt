use Rattle.law_given.proofs.Knows.{knows}
use Rattle.law_given_lists.proofs.OneList.{left-of-list, left-of-list-only, right-of-list, right-of-list-only}
use Rattle.law_given_lists.proofs.laws.one_list_is_folded.Goals as goal

pub returns : goal.returns
returns c = record {
  left = λ w f z l xs s has r give. left-of-list w (knows w has) f l xs s r z give;
  left_only = λ w f z l xs s t v has r called. left-of-list-only w (knows w has) f l xs s r z v t called;
  right = λ w f z l xs s has r give. right-of-list w (knows w has) f l xs s r z give;
  right_only = λ w f z l xs s t v has r called. right-of-list-only w (knows w has) f l xs s r z v t called;
}
