use Rattle.std.proofs.Common.{◌≡◌, ◌++◌, drop}
use Rattle.run_make.specs.Made.{filled}
use Rattle.run_make.proofs.made.put_filled.Given as goal

abbrev pub invariant-loop-byte : goal.invariant-loop-byte
invariant-loop-byte l = l.out.items ++ filled l.number (drop l.byte-index l.pattern) ≡ l.initial.out.items ++ filled l.number l.pattern
