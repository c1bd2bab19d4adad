use Rattle.law_imports.proofs.RenameLemmas.{once-imported}
use Rattle.law_imports.proofs.imports_give_each_name_once.Goals as goal

pub returns : goal.returns
returns c = once-imported
