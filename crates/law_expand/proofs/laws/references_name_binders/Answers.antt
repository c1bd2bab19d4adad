use Rattle.law_expand.proofs.Named.{references-named, assignments-named, binders-found, binders-stay}
use Rattle.law_expand.proofs.laws.references_name_binders.Goals as goal

pub returns : goal.returns
returns c = record { references = references-named; assignments = assignments-named; binders = binders-found; stay = binders-stay }
