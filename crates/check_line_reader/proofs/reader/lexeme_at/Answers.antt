use Rattle.check_line_reader.proofs.WordsLaw.{opens, closes}
use Rattle.check_line_reader.proofs.reader.lexeme_at.Goals as goal

pub returns-then-first-eq40-clause-gives : goal.returns-then-first-eq40-clause-gives
returns-then-first-eq40-clause-gives c =
    rw c.token_of.ensures (opens c.args.file.now c.args.bytes.now c.args.at c.byte_at-first.result c.byte_at-first.ensures.gives c.byte_at-first.ensures.there c.if-first-eq40.true)

pub returns-then-first-eq41-clause-gives : goal.returns-then-first-eq41-clause-gives
returns-then-first-eq41-clause-gives c =
    rw c.token_of-then-first-eq41.ensures (closes c.args.file.now c.args.bytes.now c.args.at c.byte_at-first.result c.byte_at-first.ensures.gives c.byte_at-first.ensures.there c.if-first-eq41.true)
