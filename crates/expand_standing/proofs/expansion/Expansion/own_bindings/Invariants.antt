use Rattle.std.proofs.Common.{◌≡◌}
use Rattle.expand_standing.specs.Own.{own_below}
use Rattle.expand_standing.proofs.expansion.Expansion.own_bindings.Given as goal

abbrev pub invariant-loop-number : goal.invariant-loop-number
invariant-loop-number g l = l.rows ≡ own_below l.fn.self l.number
