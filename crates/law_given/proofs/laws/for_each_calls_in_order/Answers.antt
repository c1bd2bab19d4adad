use Rattle.law_given.proofs.ForEach.{for-each-given, for-each-ended, for-each-only}
use Rattle.law_given.proofs.Knows.{knows}
use Rattle.law_given.proofs.laws.for_each_calls_in_order.Goals as goal

pub returns : goal.returns
returns c = record {
  calls = λ w f l xs s has r give. for-each-given w (knows w has) f l s xs r give;
  only = λ w f l xs s t v has r called. for-each-only w (knows w has) f l s xs v t r called;
  faults = λ w f l xs s has r give. for-each-ended w (knows w has) f l s xs r give;
}
