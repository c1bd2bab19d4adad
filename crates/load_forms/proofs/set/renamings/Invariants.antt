use Rattle.std.proofs.Common.{◌≡◌, [], drop}
use Rattle.load_forms.specs.All.{all_of}
use Rattle.load_forms.specs.Set.{renaming}
use Rattle.load_forms.proofs.set.renamings.Given as goal

abbrev pub invariant-loop-item : goal.invariant-loop-item
invariant-loop-item l = all_of (renaming l.file) l.list (drop l.item-index l.items) ≡ all_of (renaming l.file) [] l.items
