use Rattle.std.proofs.Common.{◌≡◌, [], drop}
use Rattle.load_forms.specs.All.{all_of}
use Rattle.load_forms.specs.Name.{number}
use Rattle.load_forms.proofs.name.numbers.Given as goal

abbrev pub invariant-loop-item : goal.invariant-loop-item
invariant-loop-item l = all_of number l.list (drop l.item-index l.items) ≡ all_of number [] l.items
