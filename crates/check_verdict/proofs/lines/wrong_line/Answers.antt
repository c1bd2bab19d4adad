use Rattle.std.proofs.Common.{length, take, sym, ◌∙◌, arith}
use Rattle.std.proofs.lemmas.Bool.{eqb-true}
use Rattle.check_verdict.proofs.Steps.{none_at, unended_at, stops_at, next_at, short_line, room_left, halted}
use Rattle.check_verdict.proofs.lines.wrong_line.Goals as goal
use Rattle.check_verdict.specs.Lines.{line_on, lines_on, lines_of}
use Rattle.read_lexer.proofs.StringLemmas.{differs}

pub returns-then-is_empty : goal.returns-then-is_empty
returns-then-is_empty c =
    sym c.loop-rest.invariant.0 ∙ none_at c.loop-rest.rest.now c.loop-rest.number c.loop-rest.survey (eqb-true (length c.loop-rest.rest.now) 0 (sym c.is_empty.ensures ∙ c.if-is_empty.true))

pub returns-in_default : goal.returns-in_default
returns-in_default c =
    sym c.loop-rest.invariant.0
    ∙ unended_at c.loop-rest.rest.now c.loop-rest.number c.loop-rest.survey (sym c.line_end.ensures.place ∙ c.in_default.is)
    (differs (length c.loop-rest.rest.now) 0 (sym c.is_empty.ensures ∙ c.if-is_empty.false))

pub line-requires : goal.line-requires
line-requires c = short_line c.loop-rest.rest.now c.args.lines.now c.loop-rest.number c.in-Some.end c.loop-rest.invariant.1 c.loop-rest.invariant.2 c.requires

pub returns-in-Err : goal.returns-in-Err
returns-in-Err c =
    halted c.wrong_at.result c.in-Err.halt c.loop-rest.number c.line.new.self c.line.new.self (line_on (take c.in-Some.end c.loop-rest.rest.now) c.loop-rest.survey)
    (lines_on 2 (lines_of c.args.lines.now) c.args.survey.now) c.wrong_at.ensures c.in-Err.ensures
    (λ n. sym c.loop-rest.invariant.0 ∙ stops_at c.loop-rest.rest.now c.loop-rest.number c.loop-rest.survey c.in-Some.end (sym c.line_end.ensures.place ∙ c.in-Some.is) n)

pub loop-rest-preserved : goal.loop-rest-preserved
loop-rest-preserved c =
    let end = sym c.line_end.ensures.place ∙ c.in-Some.is in
    let next = next_at c.loop-rest.rest.now c.loop-rest.number c.loop-rest.survey c.line.new.self c.in-Some.end end c.in_default-line.ensures in (
      rw c.behind_line-rest.ensures (next ∙ c.loop-rest.invariant.0),
      omega (arith, c.loop-rest.invariant.1),
      room_left c.loop-rest.rest.now c.args.lines.now c.behind_line-rest.result.now c.loop-rest.number c.in-Some.end c.behind_line-rest.ensures c.in-Some.ensures.within c.loop-rest.invariant.2,
    )
