use Rattle.std.proofs.Common.{◌∙◌, sym, rules}
use Rattle.std.proofs.lemmas.Int.{to_z-of_z}
use mir.Syntax.{w128}
use mir.Val.{SFits}
use Rattle.check_line_reader.proofs.WordsLaw.{numbered}
use Rattle.check_line_reader.proofs.reader.number_at.Goals as goal

pub returns-in-Some-clause-gives : goal.returns-in-Some-clause-gives
returns-in-Some-clause-gives c =
    let fits : SFits w128 c.in-Some.number = search rules in
    rw (c.token_of.ensures, to_z-of_z w128 c.in-Some.number fits)
    (numbered c.args.file.now c.args.bytes.now c.split_at.result.1.now c.split_at-2.result.0.now c.split_at-2.result.1.now c.args.at c.word_size-size.result c.in-Some.number c.requires.within c.requires.begins
    c.split_at.ensures.back c.word_size-size.ensures.size c.split_at-2.ensures.front c.split_at-2.ensures.back (sym c.ends_word.ensures ∙ c.if-not-ends_word.false)
    (sym c.is_integer.ensures ∙ c.if-not-is_integer.false) (sym c.integer_of.ensures ∙ c.in-Some.is))
