use Rattle.std.proofs.Common.{◌∷◌}
use Rattle.base_data.specs.declared.op.names.TheConstants as names
use Rattle.law_given.specs.Calls.{call_to, CallEnds}
use Rattle.law_given.specs.Given.{built_in}
use Rattle.law_given.proofs.Knows.{knows}
use Rattle.law_given_lists.specs.Done.{VisitDid}
use Rattle.law_given_lists.proofs.VisitRows.{for-each-ended, for-each-only}
use Rattle.law_given_lists.proofs.Values.{from-ends, all-ends, visit-values}
use Rattle.law_given_lists.proofs.laws.for_each_calls_in_order.Goals as goal

pub returns : goal.returns
returns c = record {
  gives = λ w f l m more rows s has r give.
      from-ends (λ e t. CallEnds w (call_to (built_in names.FOR_EACH) (f ∷ l ∷ m ∷ more)) s e t) (VisitDid w f rows s) (λ e t d. visit-values w f rows s e t give d)
      (for-each-ended w (knows w has) f l m more s rows r (all-ends w f rows s give));
  ends = λ w f l m more rows s has r give. for-each-ended w (knows w has) f l m more s rows r give;
  only = λ w f l m more rows s t e has r called. for-each-only w (knows w has) f l m more s rows r e t called;
}
