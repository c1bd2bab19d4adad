use Rattle.std.proofs.Common.{◌≡◌, ◌+◌, drop}
use Rattle.read_spelling.specs.Numbers.{digits_size}
use Rattle.read_spelling.proofs.numbers.digits_size.Given as goal

abbrev pub invariant-loop-i : goal.invariant-loop-i
invariant-loop-i l = l.i + digits_size l.base (drop l.i l.bytes) ≡ digits_size l.base l.bytes
