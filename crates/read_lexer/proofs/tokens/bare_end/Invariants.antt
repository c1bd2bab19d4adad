use Rattle.std.proofs.Common.{◌≡◌, ◌+◌, ◌≤◌, length}
use Rattle.read_lexer.specs.Tokens.{bare_end, bare_step}
use Rattle.read_lexer.proofs.RepeatTurns.{GoesOn}
use Rattle.read_lexer.proofs.tokens.bare_end.Given as goal

abbrev pub invariant-loop-to : goal.invariant-loop-to
invariant-loop-to l = record {
  forward : l.at ≤ l.here;
  fits : l.here + length l.rest ≡ l.at + length l.bytes;
  same : GoesOn (bare_step l.context.file.now l.context.bad l.context.from) l.rest l.here (bare_end l.context.file.now l.context.bad l.context.from l.bytes l.at);
}

abbrev pub decreases-loop-to : goal.decreases-loop-to
decreases-loop-to l = length l.rest
