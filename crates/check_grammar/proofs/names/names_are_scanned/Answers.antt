use Rattle.check_grammar.proofs.NameLemmas.{names_found}
use Rattle.check_grammar.proofs.names.names_are_scanned.Goals as goal

pub returns : goal.returns
returns c = names_found
