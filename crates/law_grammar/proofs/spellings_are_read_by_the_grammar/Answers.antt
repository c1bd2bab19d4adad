use Rattle.law_grammar.proofs.Readings.{spellings_are}
use Rattle.law_grammar.proofs.spellings_are_read_by_the_grammar.Goals as goal

pub returns : goal.returns
returns c = spellings_are c.lexemes_are_tokens_behind_gaps.ensures.tokens c.lexemes_are_tokens_behind_gaps.ensures.ends c.starts_are_marks_and_lines.ensures.starts
