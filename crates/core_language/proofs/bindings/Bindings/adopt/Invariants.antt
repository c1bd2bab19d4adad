use Rattle.std.proofs.Common.{◌≡◌, ◌≤◌, ◌++◌, length, take, true}
use Rattle.std.specs.Prelude.{reverse}
use Rattle.core_language.specs.Bindings.{are_new}
use Rattle.core_language.proofs.bindings.Bindings.adopt.Given as goal

abbrev pub invariant-loop-label : goal.invariant-loop-label
invariant-loop-label l = record {
  done : l.self ++ reverse l.rows.items ≡ l.fn.self ++ l.fn.rows.items;
  front : take (length l.fn.self) l.self ≡ l.fn.self;
  grown : length l.fn.self ≤ length l.self;
  fresh : are_new l.self (reverse l.rows.items) ≡ true;
}

abbrev pub decreases-loop-label : goal.decreases-loop-label
decreases-loop-label l = length l.rows.items
