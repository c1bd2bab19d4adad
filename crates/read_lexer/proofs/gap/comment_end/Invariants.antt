use Rattle.std.proofs.Common.{◌≡◌, ℕ, ◌+◌, ◌≤◌, ◌<◌, ◌∷◌, [], None, length, get_or, vec_len}
use Rattle.read_lexer.specs.Gap.{comment_from}
use Rattle.read_spelling.specs.Source.{characters}
use Rattle.read_lexer.proofs.gap.comment_end.Given as goal

abbrev pub invariant-loop-piece : goal.invariant-loop-piece
invariant-loop-piece l = record {
  forward : l.opening + 2 ≤ l.at;
  fits : l.at + length l.rest ≡ l.opening + 2 + length l.bytes;
  some : 0 < vec_len l.opens;
  before : (k : ℕ) → k < vec_len l.opens → get_or l.opens.items k 0 + 2 ≤ l.at;
  same : comment_from l.file l.opens.items l.last l.at (characters l.rest) ≡ comment_from l.file (l.opening ∷ []) None (l.opening + 2) (characters l.bytes);
}

abbrev pub decreases-loop-piece : goal.decreases-loop-piece
decreases-loop-piece l = length l.rest
