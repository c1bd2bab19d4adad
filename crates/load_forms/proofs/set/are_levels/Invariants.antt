use Rattle.std.proofs.Common.{◌≡◌, drop}
use Rattle.load_forms.specs.Set.{are_levels}
use Rattle.load_forms.proofs.set.are_levels.Given as goal

abbrev pub invariant-loop-item : goal.invariant-loop-item
invariant-loop-item l = are_levels (drop l.item-index l.items) ≡ are_levels l.items
