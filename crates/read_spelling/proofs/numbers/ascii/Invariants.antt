use Rattle.std.proofs.Common.{◌≡◌, true, take, drop}
use Rattle.std.specs.List.{list_all}
use Rattle.std.specs.String.{string_bytes}
use Rattle.read_spelling.specs.Numbers.{is_ascii}
use Rattle.read_spelling.proofs.numbers.ascii.Given as goal

abbrev pub invariant-loop-b : goal.invariant-loop-b
invariant-loop-b l = (string_bytes l.out ≡ take l.b-index l.text) × (list_all is_ascii (drop l.b-index l.text) ≡ true)
