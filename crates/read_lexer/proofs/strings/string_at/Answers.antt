use Rattle.std.proofs.Common.{◌+◌, ℕ, List, Ok, arith, sym, ap, ◌∙◌}
use Rattle.std.proofs.lemmas.Result.{err_from_is_err_and}
use Rattle.read_spelling.specs.Source.{piece}
use Rattle.read_lexer.specs.Strings.{string_lexeme}
use Rattle.read_lexer.proofs.StringTurns.{string_turn, string_ends, string_stops}
use Rattle.read_lexer.proofs.strings.string_at.Goals as goal

pub returns-then-byte_at-eq34-clause-gives : goal.returns-then-byte_at-eq34-clause-gives
returns-then-byte_at-eq34-clause-gives c =
    string_ends c.args.file.now c.args.from _ c.loop-rest.rest.now c.loop-rest.at _ (sym c.byte_at.ensures.gives ∙ c.if-byte_at-eq34.true) c.loop-rest.invariant.same
    ∙ ap (λ (text : List ℕ). Ok (string_lexeme text c.args.from (c.loop-rest.at + 1))) (sym c.in_ok-text.ensures)

pub returns-in_err-part-clause-gives : goal.returns-in_err-part-clause-gives
returns-in_err-part-clause-gives c =
    let p = err_from_is_err_and c.from_residual-in_err-part.result c.from_residual-in_err-part.ensures.1 in
    rw (p.1, p.2) (string_stops c.args.file.now c.args.from _ c.loop-rest.rest.now c.loop-rest.at _ _
    (λ e. c.if-byte_at-eq34.false (c.byte_at.ensures.gives ∙ e)) c.in_err-part.ensures.gives c.loop-rest.invariant.same)

pub loop-rest-preserved : goal.loop-rest-preserved
loop-rest-preserved c =
    let size = c.in_ok-part.ensures.size in
    let part = c.in_ok-part.part in
    record {
      forward = omega arith;
      fits = omega (arith, c.split_at-in-loop-rest.ensures.back_len, size.0, size.1);
      same = string_turn c.args.file.now c.args.from _ _ c.loop-rest.rest.now _ c.loop-rest.at (piece part.char part.size) _
          (λ e. c.if-byte_at-eq34.false (c.byte_at.ensures.gives ∙ e)) size.0 size.1 c.in_ok-part.ensures.gives c.split_at-in-loop-rest.ensures.back
          c.in_ok-push_char.ensures c.loop-rest.invariant.same;
    }
