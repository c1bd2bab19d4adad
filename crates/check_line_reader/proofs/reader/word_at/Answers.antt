use Rattle.std.proofs.Common.{◌∙◌, sym}
use Rattle.check_line_reader.proofs.WordsLaw.{worded}
use Rattle.check_line_reader.proofs.reader.word_at.Goals as goal

pub returns-in_ok-name-in-Ok-clause-gives : goal.returns-in_ok-name-in-Ok-clause-gives
returns-in_ok-name-in-Ok-clause-gives c =
    rw (c.token_of.ensures, c.in_ok-name-in-Ok.ensures ∙ c.in-Ok.ensures.cases.0)
    (worded c.args.file.now c.args.bytes.now c.split_at.result.1.now c.split_at-2.result.0.now c.split_at-2.result.1.now c.args.at c.word_size-size.result c.requires.within c.requires.begins
    c.split_at.ensures.back c.word_size-size.ensures.size c.split_at-2.ensures.front c.split_at-2.ensures.back (sym c.ends_word.ensures ∙ c.if-not-ends_word.false))
