use Rattle.std.proofs.Common.{◌∷◌}
use Rattle.base_data.specs.declared.op.names.TheConstants as names
use Rattle.law_given.specs.Calls.{call_to, CallEnds}
use Rattle.law_given.specs.Given.{built_in}
use Rattle.law_given.proofs.Knows.{knows}
use Rattle.law_given_lists.specs.Done.{MapDid}
use Rattle.law_given_lists.proofs.MapRows.{map-ended, map-only}
use Rattle.law_given_lists.proofs.Values.{from-ends, all-ends, map-values}
use Rattle.law_given_lists.proofs.laws.map_gives_the_answers.Goals as goal

pub returns : goal.returns
returns c = record {
  gives = λ w f l m more rows s has r give.
      from-ends (λ e t. CallEnds w (call_to (built_in names.MAP) (f ∷ l ∷ m ∷ more)) s e t) (MapDid w f rows s) (λ e t d. map-values w f rows s e t give d)
      (map-ended w (knows w has) f l m more s rows r (all-ends w f rows s give));
  ends = λ w f l m more rows s has r give. map-ended w (knows w has) f l m more s rows r give;
  only = λ w f l m more rows s t e has r called. map-only w (knows w has) f l m more s rows r e t called;
}
