use Rattle.std.proofs.Common.{◌≡◌, drop}
use Rattle.law_core.specs.Follows.{is_recorded}
use Rattle.law_core.specs.Words.{each}
use Rattle.expand_follows.proofs.defines.are_recorded.Given as goal

abbrev pub invariant-loop-row : goal.invariant-loop-row
invariant-loop-row l = each is_recorded (drop l.row-index l.bindings) ≡ each is_recorded l.bindings
