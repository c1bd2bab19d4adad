use Rattle.law_core_grammar.proofs.Readable.{spellings_can_be_read}
use Rattle.law_core_grammar.proofs.Whole.{core_text_back}
use Rattle.law_core_grammar.proofs.core_text_is_read_back.Goals as goal

pub returns-clause-spellings : goal.returns-clause-spellings
returns-clause-spellings c = spellings_can_be_read

pub returns-clause-whole : goal.returns-clause-whole
returns-clause-whole c = core_text_back c.spellings_are_read_by_the_grammar.ensures
