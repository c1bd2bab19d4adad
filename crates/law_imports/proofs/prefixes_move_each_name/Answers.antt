use Rattle.law_imports.proofs.RenameLemmas.{prefix_in_place, prefix_of, once-prefixed}
use Rattle.law_imports.proofs.prefixes_move_each_name.Goals as goal

pub returns : goal.returns
returns c = record { in_place = prefix_in_place; none_without = prefix_of; once = once-prefixed }
