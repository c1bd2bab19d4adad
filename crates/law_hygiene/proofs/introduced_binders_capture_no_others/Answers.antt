use Rattle.law_hygiene.proofs.Marking.{lacks_changed}
use Rattle.law_hygiene.proofs.Using.{by_others, one_more}
use Rattle.law_hygiene.proofs.introduced_binders_capture_no_others.Goals as goal

pub returns : goal.returns
returns c = record { by_others = by_others; one_more = one_more; untouched = lacks_changed }
