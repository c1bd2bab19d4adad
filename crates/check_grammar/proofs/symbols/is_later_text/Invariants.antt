use Rattle.std.proofs.Common.{◌≡◌, drop}
use Rattle.std.specs.List.{list_all}
use Rattle.check_grammar.specs.Symbols.{is_later}
use Rattle.check_grammar.proofs.symbols.is_later_text.Given as goal

abbrev pub invariant-loop-byte : goal.invariant-loop-byte
invariant-loop-byte l = list_all is_later (drop l.byte-index l.text) ≡ list_all is_later l.text
