use Rattle.std.proofs.Common.{◌+◌, refl, ap, sym, ◌∙◌, Some, arith}
use Rattle.read_spelling.specs.Identifiers.{letter_here, name}
use Rattle.read_spelling.proofs.NameTurns.{plain_turn, plain_done}
use Rattle.read_spelling.proofs.identifiers.plain_name.Goals as goal

pub loop-at-preserved : goal.loop-at-preserved
loop-at-preserved c =
    let text = c.args.text.now in (
      omega (arith, c.loop-at-test.true),
      plain_turn c.loop-at.class text c.loop-at.at (c.loop-at.at + 1) c.in-Some.letter (name c.args.class text) c.loop-at-test.true refl
          (ap (λ rest. letter_here c.loop-at.class rest) (sym c.behind-rest.ensures) ∙ sym c.letter_here.ensures.gives ∙ c.in-Some.is)
          c.if-letter-ne1.false c.if-letter-ge128.false c.if-letter-text.false c.loop-at.invariant.1,
    )

pub returns-in-Ok : goal.returns-in-Ok
returns-in-Ok c =
    let text = c.args.text.now in
    let read = plain_done c.loop-at.class text c.loop-at.at (name c.args.class text) c.loop-at-test.false c.loop-at.invariant.1 in
    read ∙ ap Some (sym c.in-Ok.ensures.cases.0)
