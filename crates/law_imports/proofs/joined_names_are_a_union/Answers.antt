use Rattle.law_imports.proofs.AlgebraLemmas.{value-joined, has-joined, once-joined, conflict-joined}
use Rattle.law_imports.proofs.joined_names_are_a_union.Goals as goal

pub returns : goal.returns
returns c = record { union = value-joined; has = has-joined; once = once-joined; conflict = conflict-joined }
