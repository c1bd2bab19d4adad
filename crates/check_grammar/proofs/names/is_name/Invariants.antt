use Rattle.std.proofs.Common.{◌≡◌, drop}
use Rattle.check_grammar.specs.Scan.{scanned}
use Rattle.check_grammar.specs.declared.names.NamePlace.TheVariants.{Begin}
use Rattle.check_grammar.proofs.names.is_name.Given as goal

abbrev pub invariant-loop-byte : goal.invariant-loop-byte
invariant-loop-byte l = scanned l.place (drop l.byte-index l.text) ≡ scanned Begin l.text
