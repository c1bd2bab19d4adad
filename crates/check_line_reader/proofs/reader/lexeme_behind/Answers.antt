use Rattle.check_line_reader.proofs.WordsLaw.{spaced}
use Rattle.check_line_reader.proofs.reader.lexeme_behind.Goals as goal

pub returns-then-byte_at-eq32-clause-gives : goal.returns-then-byte_at-eq32-clause-gives
returns-then-byte_at-eq32-clause-gives c =
    rw (spaced c.args.file.now c.args.bytes.now c.args.at c.byte_at.result c.byte_at.ensures.gives c.byte_at.ensures.there c.if-byte_at-eq32.true) c.lexeme_at.ensures.gives
