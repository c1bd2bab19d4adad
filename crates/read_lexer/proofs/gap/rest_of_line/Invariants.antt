use Rattle.std.proofs.Common.{◌≡◌, ◌+◌, ◌≤◌, length}
use Rattle.read_lexer.specs.Gap.{rest_of_line}
use Rattle.read_spelling.specs.Source.{characters}
use Rattle.read_lexer.proofs.gap.rest_of_line.Given as goal

abbrev pub invariant-loop-piece : goal.invariant-loop-piece
invariant-loop-piece l = record {
  forward : l.from ≤ l.at;
  fits : l.at + length l.rest ≡ l.from + length l.bytes;
  same : rest_of_line l.file l.until l.at (characters l.rest) ≡ rest_of_line l.file l.until l.from (characters l.bytes);
}

abbrev pub decreases-loop-piece : goal.decreases-loop-piece
decreases-loop-piece l = length l.rest
