use Rattle.std.proofs.Common.{◌≡◌, ◌++◌, drop}
use Rattle.std.specs.String.{string_bytes}
use Rattle.check_grammar.specs.Text.{further_bytes}
use Rattle.check_grammar.proofs.text.write_further_bytes.Given as goal

abbrev pub invariant-loop-byte : goal.invariant-loop-byte
invariant-loop-byte l = string_bytes l.out ++ further_bytes (drop l.byte-index l.bytes) ≡ string_bytes l.initial.out ++ further_bytes l.bytes
