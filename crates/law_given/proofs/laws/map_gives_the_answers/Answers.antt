use Rattle.law_given.proofs.Knows.{knows}
use Rattle.law_given.proofs.MapText.{map-given, map-ended, map-only}
use Rattle.law_given.proofs.MapBy.{map-by}
use Rattle.law_given.proofs.laws.map_gives_the_answers.Goals as goal

pub returns : goal.returns
returns c = record {
  answers = λ w f l xs s has r give. map-given w s (knows w has) f l xs r give;
  only = λ w f l xs s t v has r called. map-only w s (knows w has) f l xs v t r called;
  said = λ w f l g xs s has r give. map-by w (knows w has) f l g xs s r give;
  faults = λ w f l xs s has r give. map-ended w s (knows w has) f l xs r give;
}
