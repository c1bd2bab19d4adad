use Rattle.law_core_grammar.proofs.Spellings.{one_spelling}
use Rattle.law_core_grammar.proofs.a_code_has_one_spelling.Goals as goal

pub returns : goal.returns
returns c = one_spelling
