use Rattle.law_given.proofs.FilterBack.{filter-only}
use Rattle.law_given.proofs.FilterEnds.{filter-ended}
use Rattle.law_given.proofs.RempEnds.{remp-ended}
use Rattle.law_given.proofs.Knows.{knows}
use Rattle.law_given.proofs.Remp.{remp-given, remp-only}
use Rattle.law_given.proofs.ListTexts.{filter-given}
use Rattle.law_given.proofs.laws.filter_keeps_and_remp_leaves_out.Goals as goal

pub returns : goal.returns
returns c = record {
  filter = λ w f l xs s has r give. filter-given w (knows w has) f l xs s r give;
  filter_only = λ w f l xs s t v has r called. filter-only w (knows w has) f l xs s v t r called;
  filter_faults = λ w f l xs s has r give. filter-ended w (knows w has) f l xs s r give;
  remp = λ w f l xs s has r give. remp-given w (knows w has) f l s xs r give;
  remp_only = λ w f l xs s t v has r called. remp-only w (knows w has) f l s xs v t r called;
  remp_faults = λ w f l xs s has r give. remp-ended w (knows w has) f l s xs r give;
}
