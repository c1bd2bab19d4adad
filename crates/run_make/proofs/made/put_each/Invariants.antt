use Rattle.std.proofs.Common.{◌≡◌, ◌++◌, ◌-◌}
use Rattle.run_make.specs.Made.{each}
use Rattle.run_make.proofs.made.put_each.Given as goal

abbrev pub invariant-loop-number : goal.invariant-loop-number
invariant-loop-number l = l.out.items ++ each l.pattern l.number (l.count - l.number) ≡ l.initial.out.items ++ each l.pattern 0 l.count
