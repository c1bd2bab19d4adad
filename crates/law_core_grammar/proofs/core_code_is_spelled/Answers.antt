use Rattle.law_core_grammar.proofs.Spellings.{code_is_spelled, lines_are_spelled}
use Rattle.law_core_grammar.proofs.core_code_is_spelled.Goals as goal

pub returns-clause-code : goal.returns-clause-code
returns-clause-code c = code_is_spelled

pub returns-clause-lines : goal.returns-clause-lines
returns-clause-lines c = lines_are_spelled
