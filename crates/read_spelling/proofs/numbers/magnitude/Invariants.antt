use Rattle.std.proofs.Common.{◌≡◌, drop}
use Rattle.read_spelling.specs.Numbers.{value_from}
use Rattle.read_spelling.proofs.numbers.magnitude.Given as goal

abbrev pub invariant-loop-b : goal.invariant-loop-b
invariant-loop-b l = value_from l.base l.n (drop l.b-index l.digits) ≡ value_from l.base 0 l.digits
