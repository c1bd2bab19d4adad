use Rattle.law_given.proofs.FindBack.{find-only}
use Rattle.law_given.proofs.MempBack.{memp-only}
use Rattle.law_given.proofs.FindEnds.{find-ended}
use Rattle.law_given.proofs.MempEnds.{memp-ended}
use Rattle.law_given.proofs.Knows.{knows}
use Rattle.law_given.proofs.ListTexts.{find-given, memp-given}
use Rattle.law_given.proofs.laws.find_and_memp_stop_at_the_first.Goals as goal

pub returns : goal.returns
returns c = record {
  find = λ w f l xs s has r give. find-given w (knows w has) f l xs s r give;
  memp = λ w f l xs s has r give. memp-given w (knows w has) f l xs s r give;
  find_only = λ w f l xs s t v has r called. find-only w (knows w has) f l xs s v t r called;
  memp_only = λ w f l xs s t v has r called. memp-only w (knows w has) f l xs s v t r called;
  find_faults = λ w f l xs s has r give. find-ended w (knows w has) f l xs s r give;
  memp_faults = λ w f l xs s has r give. memp-ended w (knows w has) f l xs s r give;
}
