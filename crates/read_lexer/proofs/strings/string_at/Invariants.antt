use Rattle.std.proofs.Common.{◌≡◌, ◌+◌, ◌<◌, length}
use Rattle.std.specs.String.{string_bytes}
use Rattle.read_lexer.specs.Strings.{string_at}
use Rattle.read_lexer.proofs.StringTurns.{StringGoesOn}
use Rattle.read_lexer.proofs.strings.string_at.Given as goal

abbrev pub invariant-loop-rest : goal.invariant-loop-rest
invariant-loop-rest l = record {
  forward : l.from < l.at;
  fits : l.at + length l.rest ≡ l.from + length l.bytes;
  same : StringGoesOn l.file l.from (string_bytes l.text) l.rest l.at (string_at l.file l.bytes l.from);
}

abbrev pub decreases-loop-rest : goal.decreases-loop-rest
decreases-loop-rest l = length l.rest
