use Rattle.law_imports.proofs.RenameLemmas.{rename_once, rename_labels, rename_order, rename_apart, rename_one_to_one}
use Rattle.law_imports.proofs.renames_keep_names_apart.Goals as goal

pub returns : goal.returns
returns c = record { once = rename_once; labels = rename_labels; order = rename_order; apart = rename_apart; one_to_one = rename_one_to_one }
