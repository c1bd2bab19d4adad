use Rattle.law_hygiene.proofs.Marking.{lacks_changed}
use Rattle.law_hygiene.proofs.Using.{row_introduced, none_before, apart_binders}
use Rattle.law_hygiene.proofs.introduced_binders_are_told.Goals as goal

pub returns : goal.returns
returns c = record {
  introduced = row_introduced;
  others = λ m xs t l h d. (lacks_changed m xs t h d).marks;
  none_before = none_before;
  apart = apart_binders;
}
