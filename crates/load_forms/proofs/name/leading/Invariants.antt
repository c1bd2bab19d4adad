use Rattle.std.proofs.Common.{◌≡◌, ◌++◌, drop}
use Rattle.load_forms.specs.Name.{leading}
use Rattle.load_forms.proofs.name.leading.Given as goal

abbrev pub invariant-loop-item : goal.invariant-loop-item
invariant-loop-item l = l.parts ++ leading (drop l.item-index l.items) ≡ leading l.items
