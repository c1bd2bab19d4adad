use Rattle.law_core_grammar.proofs.Codes.{one_code, one_line}
use Rattle.law_core_grammar.proofs.a_datum_spells_one_code.Goals as goal

pub returns-clause-code : goal.returns-clause-code
returns-clause-code c = one_code

pub returns-clause-lines : goal.returns-clause-lines
returns-clause-lines c = one_line
