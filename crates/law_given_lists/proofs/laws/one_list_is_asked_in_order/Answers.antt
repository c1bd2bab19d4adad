use Rattle.law_given.proofs.Knows.{knows}
use Rattle.law_given_lists.proofs.OneList.{for-all-of-one, for-all-of-one-only, exists-of-list, exists-of-list-only}
use Rattle.law_given_lists.proofs.laws.one_list_is_asked_in_order.Goals as goal

pub returns : goal.returns
returns c = record {
  all = λ w f l xs s has r give. for-all-of-one w (knows w has) f l xs s r give;
  all_only = λ w f l xs s t v has r called. for-all-of-one-only w (knows w has) f l xs s r v t called;
  exists = λ w f l xs s has r give. exists-of-list w (knows w has) f l xs s r give;
  exists_only = λ w f l xs s t v has r called. exists-of-list-only w (knows w has) f l xs s r v t called;
}
