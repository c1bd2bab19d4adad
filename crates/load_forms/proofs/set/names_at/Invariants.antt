use Rattle.std.proofs.Common.{◌≡◌, [], drop}
use Rattle.load_forms.specs.All.{all_of}
use Rattle.load_forms.specs.Set.{name_at}
use Rattle.load_forms.proofs.set.names_at.Given as goal

abbrev pub invariant-loop-item : goal.invariant-loop-item
invariant-loop-item l = all_of (name_at l.file) l.names (drop l.item-index l.items) ≡ all_of (name_at l.file) [] l.items
