use Rattle.law_core_grammar.proofs.Codes.{one_code_by_names, one_line_by_names}
use Rattle.law_core_grammar.proofs.a_datum_spells_one_code_by_names.Goals as goal

pub returns-clause-code : goal.returns-clause-code
returns-clause-code c = one_code_by_names

pub returns-clause-lines : goal.returns-clause-lines
returns-clause-lines c = one_line_by_names
