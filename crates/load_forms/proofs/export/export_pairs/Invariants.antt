use Rattle.std.proofs.Common.{◌≡◌, [], drop}
use Rattle.load_forms.specs.All.{all_of}
use Rattle.load_forms.specs.Export.{export_pair}
use Rattle.load_forms.proofs.export.export_pairs.Given as goal

abbrev pub invariant-loop-item : goal.invariant-loop-item
invariant-loop-item l = all_of (export_pair l.file) l.list (drop l.item-index l.items) ≡ all_of (export_pair l.file) [] l.items
