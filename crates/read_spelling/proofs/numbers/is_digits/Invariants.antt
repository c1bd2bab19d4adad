use Rattle.std.proofs.Common.{◌≡◌, drop}
use Rattle.std.specs.List.{list_all}
use Rattle.read_spelling.specs.Numbers.{is_digit}
use Rattle.read_spelling.proofs.numbers.is_digits.Given as goal

abbrev pub invariant-loop-b : goal.invariant-loop-b
invariant-loop-b l = list_all (is_digit l.base) (drop l.b-index l.text) ≡ list_all (is_digit l.base) l.text
