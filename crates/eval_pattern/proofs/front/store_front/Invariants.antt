use Rattle.std.proofs.Common.{◌≡◌, ◌-◌, [], length}
use Rattle.eval_pattern.specs.Front.{store_front}
use Rattle.eval_pattern.proofs.front.store_front.Given as goal

abbrev pub invariant-loop : goal.invariant-loop
invariant-loop l = store_front l.cells.list (length l.cells.list - l.counter) l.limit l.elements l.rest ≡ store_front l.cells.list (length l.cells.list) l.limit [] l.value
