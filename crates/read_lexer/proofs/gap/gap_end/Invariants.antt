use Rattle.std.proofs.Common.{◌≡◌, ◌+◌, ◌≤◌, length}
use Rattle.read_lexer.specs.Gap.{gap_end, atmosphere_end}
use Rattle.read_lexer.proofs.RepeatTurns.{GoesOn}
use Rattle.read_lexer.proofs.gap.gap_end.Given as goal

abbrev pub invariant-loop-to : goal.invariant-loop-to
invariant-loop-to l = record {
  forward : l.at ≤ l.here;
  fits : l.here + length l.rest ≡ l.at + length l.bytes;
  same : GoesOn (atmosphere_end l.file) l.rest l.here (gap_end l.file l.bytes l.at);
}

abbrev pub decreases-loop-to : goal.decreases-loop-to
decreases-loop-to l = length l.rest
