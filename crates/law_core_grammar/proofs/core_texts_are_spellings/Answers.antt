use Rattle.law_core_grammar.proofs.Texts.{texts_are, line_texts_are}
use Rattle.law_core_grammar.proofs.core_texts_are_spellings.Goals as goal

pub returns-clause-code : goal.returns-clause-code
returns-clause-code c = texts_are

pub returns-clause-lines : goal.returns-clause-lines
returns-clause-lines c = line_texts_are
