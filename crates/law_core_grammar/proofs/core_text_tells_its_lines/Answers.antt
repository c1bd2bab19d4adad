use Rattle.law_core_grammar.proofs.Whole.{lines_by_text}
use Rattle.law_core_grammar.proofs.core_text_tells_its_lines.Goals as goal

pub returns : goal.returns
returns c = lines_by_text c.spellings_are_read_by_the_grammar.ensures
