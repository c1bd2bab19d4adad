use Rattle.std.proofs.Common.{◌≡◌, ◌+◌, ◌≤◌, length}
use Rattle.read_spelling.specs.Source.{characters}
use Rattle.read_spelling.specs.Whitespace.{run_end}
use Rattle.read_spelling.proofs.whitespace.run_end.Given as goal

abbrev pub invariant-loop-piece : goal.invariant-loop-piece
invariant-loop-piece l = record {
  forward : l.from ≤ l.at;
  fits : l.at + length l.rest ≡ l.from + length l.bytes;
  same : run_end l.at (characters l.rest) ≡ run_end l.from (characters l.bytes);
}

abbrev pub decreases-loop-piece : goal.decreases-loop-piece
decreases-loop-piece l = length l.rest
